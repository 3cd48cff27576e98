-- What is printed in format 2 of a raw specification that a text derives.
use Rattle.std.proofs.Common.{◌≡◌, ◌⊎◌, inl, inr, ℕ, ◌*◌, ◌≤◌, List, length, refl, ap, sym, subst, arith, lit<}
use Rattle.std.specs.Fmt.{decimal, digits}
use Rattle.std.specs.Prelude.{true}
use Rattle.spec_text.proofs.SpanLemmas.{spans_hold}
use Rattle.spec_grammar.specs.declared.raw.RawSpec.{RawSpec}
use Rattle.spec_grammar.specs.Items.{items_of}
use Rattle.spec_grammar.specs.Grammar.{Marked, IsFormat, IsSpecText}
use Rattle.spec_grammar.specs.Derives.{TextDerives, clean}
use Rattle.spec_grammar.specs.Laws.{OneReading}
use Rattle.spec_printing.specs.Printed.{printed}
use Rattle.spec_printing.specs.SamePlaces.{IsSameButPlaces}
use Rattle.spec_printing.specs.Upgraded.{upgraded, UpgradeReadsBack}
use Rattle.spec_printing.proofs.Looser.{Looser, same_limits, looser_two}
use Rattle.spec_printing.proofs.Plain.{AllGood, HasPlainText, plain_text_in, spaced_size}
use Rattle.spec_printing.proofs.Pieces.{tokens_good}
use Rattle.spec_printing.proofs.Shown.{shown, printed_is}
use Rattle.spec_printing.proofs.Short.{shown_short, tokens_short}
use Rattle.spec_printing.proofs.Again.{plain_reads_back}
use Rattle.spec_printing.proofs.PrintedAgain.{printed_same}

-- format 2 has looser limits than each format, and its number isn't longer
looser : (version : ℕ) → (version ≡ 1) ⊎ (version ≡ 2) → Looser version 2
looser version (inl one) = subst (λ (v : ℕ). Looser v 2) (sym one) looser_two
looser version (inr two) = subst (λ (v : ℕ). Looser v 2) (sym two) (same_limits 2)

narrow_literals : (length (decimal 2) ≤ length (decimal 1)) × (length (decimal 2) ≤ length (decimal 2))
unfolding digits
narrow_literals = (omega arith, omega arith)

narrow : (version : ℕ) → (version ≡ 1) ⊎ (version ≡ 2) → length (decimal 2) ≤ length (decimal version)
narrow version (inl one) = subst (λ (v : ℕ). length (decimal 2) ≤ length (decimal v)) (sym one) narrow_literals.0
narrow version (inr two) = subst (λ (v : ℕ). length (decimal 2) ≤ length (decimal v)) (sym two) narrow_literals.1

known : (raw : RawSpec) → IsFormat raw → (raw.version ≡ 1) ⊎ (raw.version ≡ 2)
known raw (inl one) = inl one.0
known raw (inr two) = inr two

module _ (bytes : List ℕ) (raw : RawSpec) (d : TextDerives IsSpecText bytes raw) where
  abbrev text : List Marked
  text = clean (items_of bytes d.0)

  in_two : HasPlainText (upgraded raw) text
  in_two =
      let version = known raw d.2.7 in
      let good : AllGood text = tokens_good bytes d.0 (spans_hold bytes d.0 d.1).spelled in
      plain_text_in raw 2 text (looser raw.version version) (lit< tt) (narrow raw.version version) (inr refl) d.2 good

  upgrade_read :
      (again : RawSpec) × TextDerives IsSpecText (printed (upgraded raw)) again
      × IsSameButPlaces again (upgraded raw)
  upgrade_read = let p = in_two in plain_reads_back (upgraded raw) p.plain p.is p.good

  upgrade_short : length (printed (upgraded raw)) ≤ 3 * length bytes
  upgrade_short =
      let p = in_two in
      let spans = spans_hold bytes d.0 d.1 in
      let whole : length (printed (upgraded raw)) ≡ length (shown true p.plain) =
      ap length (printed_is (upgraded raw) p.plain p.is) in
      let written = shown_short true p.plain in
      let shorter = p.short in
      let tokens = tokens_short bytes 0 (length bytes) d.0 spans.in_order spans.spelled in
      let some : 1 ≤ spaced_size text = subst (λ (w : List Marked). 1 ≤ spaced_size w) (sym d.2.3) (omega arith) in
      omega (arith, whole, written, shorter, tokens, some)

-- there is one reading of what is printed in format 2
module _ (reading : OneReading) where
  same :
      (bytes : List ℕ) (raw again : RawSpec) → TextDerives IsSpecText bytes raw →
      TextDerives IsSpecText (printed (upgraded raw)) again → IsSameButPlaces again (upgraded raw)
  same bytes raw again d p =
      let back = upgrade_read bytes raw d in
      let one = reading.one_spec (printed (upgraded raw)) back.0 again back.1 p in
      subst (λ (r : RawSpec). IsSameButPlaces r (upgraded raw)) one back.2

  unchanged :
      (bytes : List ℕ) (raw again : RawSpec) → TextDerives IsSpecText bytes raw →
      TextDerives IsSpecText (printed (upgraded raw)) again →
      printed (upgraded again) ≡ printed (upgraded raw)
  unchanged bytes raw again d p =
      let s = same bytes raw again d p in
      printed_same (upgraded again) (upgraded raw) (record {
        version = refl;
        sorts = s.sorts;
        funs = s.funs;
        equals = s.equals;
        statuses = s.statuses;
        order = s.order;
        rules = s.rules;
        goals = s.goals;
      })

  pub upgrade_reads_back : UpgradeReadsBack
  upgrade_reads_back = record {
    derives = λ bytes raw d. let back = upgrade_read bytes raw d in (back.0, back.1);
    same = same;
    unchanged = unchanged;
    short = upgrade_short;
  }
