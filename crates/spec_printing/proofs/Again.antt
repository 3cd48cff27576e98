-- What is printed of a raw specification that a text derives reads back as the same one, apart from places: the tokens of
-- the pieces of its plain text are that text with names at other places.
use Rattle.std.proofs.Common.{ℕ, List, [], refl, sym, subst}
use Rattle.std.specs.Prelude.{true, codes}
use Rattle.spec_text.specs.Tokens.{AreTokens}
use Rattle.spec_text.specs.Written.{Written, written, placed}
use Rattle.spec_text.specs.declared.tokens.Token.{Token}
use Rattle.spec_text.proofs.SpanLemmas.{spans_hold}
use Rattle.spec_text.proofs.WrittenLemmas.{written_tokens}
use Rattle.spec_grammar.specs.declared.raw.RawSpec.{RawSpec}
use Rattle.spec_grammar.specs.Items.{items_of}
use Rattle.spec_grammar.specs.Grammar.{Marked, IsSpecText}
use Rattle.spec_grammar.specs.Derives.{TextDerives, clean}
use Rattle.spec_grammar.specs.Laws.{OneReading}
use Rattle.spec_printing.specs.Printed.{printed}
use Rattle.spec_printing.specs.ReadsBack.{PrintedReadsBack}
use Rattle.spec_printing.specs.SamePlaces.{IsSameButPlaces}
use Rattle.spec_printing.proofs.Plain.{AllGood, IsPlainText, plain_is_text, plain_text}
use Rattle.spec_printing.proofs.Moved.{Moved, spec_moves}
use Rattle.spec_printing.proofs.Pieces.{pieces, pieces_sound, pieces_moved, tokens_good}
use Rattle.spec_printing.proofs.Shown.{printed_is}
use Rattle.spec_printing.proofs.PrintedAgain.{printed_same}

pub plain_reads_back :
    (raw : RawSpec) (w : List Marked) → IsPlainText raw w → AllGood w →
    (again : RawSpec) × TextDerives IsSpecText (printed raw) again × IsSameButPlaces again raw
plain_reads_back raw w plain good =
    let ws : List Written = pieces true w in
    let text : List ℕ = written ws (codes "\n") in
    let tokens : List Token = placed 0 ws in
    let are : AreTokens text tokens = written_tokens ws (codes "\n") (pieces_sound true w good) (refl, tt) in
    let moved : Moved w (clean (items_of text tokens)) = pieces_moved w true [] (codes "\n") text 0 good refl refl in
    let m = spec_moves raw w (clean (items_of text tokens)) plain moved in
    let derives : TextDerives IsSpecText text m.0 = (
      tokens,
      are,
      plain_is_text m.0 (clean (items_of text tokens)) m.1,
    ) in
    (m.0, subst (λ (bytes : List ℕ). TextDerives IsSpecText bytes m.0) (sym (printed_is raw w plain)) derives, m.2)

pub reads_back : (bytes : List ℕ) (raw : RawSpec) → TextDerives IsSpecText bytes raw →
    (again : RawSpec) × TextDerives IsSpecText (printed raw) again × IsSameButPlaces again raw
reads_back bytes raw h =
    let spans = spans_hold bytes h.0 h.1 in
    let plain = plain_text raw (clean (items_of bytes h.0)) h.2 (tokens_good bytes h.0 spans.spelled) in
    plain_reads_back raw plain.plain plain.is plain.good

-- there is one reading of what is printed
module _ (reading : OneReading) where
  same :
      (bytes : List ℕ) (raw again : RawSpec) → TextDerives IsSpecText bytes raw →
      TextDerives IsSpecText (printed raw) again → IsSameButPlaces again raw
  same bytes raw again d p =
      let back = reads_back bytes raw d in
      let one = reading.one_spec (printed raw) back.0 again back.1 p in
      subst (λ (r : RawSpec). IsSameButPlaces r raw) one back.2

  pub printed_reads_back : PrintedReadsBack
  printed_reads_back = record {
    derives = λ bytes raw d. let back = reads_back bytes raw d in (back.0, back.1);
    same = same;
    printed_again = λ bytes raw again d p. printed_same again raw (same bytes raw again d p);
  }
