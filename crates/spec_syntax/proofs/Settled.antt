-- What a reader of whole texts answers, from the stack of symbols.
use Rattle.std.proofs.Common.{◌≡◌, ℕ, ◌-◌, List, [], ◌∷◌, ◌++◌, Option, Some, None, Result, Ok, Err, drop, length}
use Rattle.std.proofs.Common.{refl, ap, sym, subst, ◌∙◌, arith, length-append}
use Rattle.std.proofs.Math.Seq.{drop-append_seam}
use Rattle.std.specs.Prelude.{IfOk, IfErr}
use Rattle.spec_text.specs.Tokens.{AreTokens}
use Rattle.spec_text.specs.declared.tokens.Token.{Token}
use Rattle.spec_text.proofs.TokenLemmas.{one_list, one_fault, tokens_or_fault}
use Rattle.spec_grammar.specs.declared.limits.LimitKind.{LimitKind}
use Rattle.spec_grammar.specs.Items.{Item, items_of}
use Rattle.spec_grammar.specs.Grammar.{Marked}
use Rattle.spec_grammar.specs.Derives.{place_of, IsFault, TextDerives, TextHasFault}
use Rattle.spec_grammar.specs.Symbols.{Symbol, Fault, run}
use Rattle.spec_grammar.proofs.ItemLemmas.{length-items_of}
use Rattle.spec_grammar.proofs.Stacks.{Agrees, some_is, none_some, limit_none, limit_is, heads, tails, nil_cons}
use Rattle.spec_grammar.proofs.Means.{MeansTo}
use Rattle.spec_grammar.proofs.Readings.{fault_stops, derived_or_fault, one_derived}
use Rattle.spec_grammar.proofs.Whole.{refused, derived_run}
use Rattle.spec_syntax.specs.declared.fault.SyntaxFault.{SyntaxFault}
use Rattle.spec_syntax.specs.declared.fault.SyntaxFault.TheVariants.{Text, Syntax, Limit, OutOfMemory}
use Rattle.spec_syntax.specs.Faults.{IsAnswer, IsSyntaxFault, HasFault, TellsFault}
use Rattle.spec_syntax.specs.Wholes.{place_left, StopsAt, Settles}

-- a list of tokens falls apart as its items do
abbrev Split : List ℕ → List Token → List Item → List Item → Type 0
Split bytes tokens done left = (before : List Token) × (after : List Token) × (tokens ≡ before ++ after)
    × (items_of bytes before ≡ done) × (items_of bytes after ≡ left)

split : (bytes : List ℕ) (tokens : List Token) (done left : List Item) → items_of bytes tokens ≡ done ++ left →
    Split bytes tokens done left
split bytes tokens [] left e = ([], tokens, refl, refl, e)
split bytes [] (x ∷ done) left e = absurd (nil_cons e)
split bytes (t ∷ tokens) (x ∷ done) left e =
    let r = split bytes tokens done left (tails e) in (
      t ∷ r.0,
      r.1,
      ap (λ (ts : List Token). t ∷ ts) r.2,
      ap (λ (y : Item). y ∷ items_of bytes r.0) (heads e)
          ∙ ap (λ (ys : List Item). x ∷ ys) r.3,
      r.4,
    )

place_left-append : (before after : List Token) (end : ℕ) →
    place_left (before ++ after) (length after) end ≡ place_of after end
place_left-append before after end =
    let n : length (before ++ after) - length after ≡ length before = omega (arith, length-append before after) in
    ap (λ (k : ℕ). place_of (drop k (before ++ after)) end) n
    ∙ ap (λ (ts : List Token). place_of ts end) (drop-append_seam before after)

some_none : {f : Fault} → ◌≡◌ {A = Option Fault} (Some f) None → ⊥
some_none e = cc

module _ {R : Type 0} (start : List Symbol) (IsText : R → List Marked →
    Type 0) (agrees : (r : R) (w : List Marked) → IsText r w → Agrees start w) (means : (w : List Marked) →
    MeansTo start w [] → (r : R) × IsText r w) (one : (r q : R) (w : List Marked) → IsText r w → IsText q w →
    r ≡ q) (bytes : List ℕ) where
  stop_is_fault : (at : ℕ) (why : Option LimitKind) → StopsAt start bytes at why → TextHasFault IsText bytes at why
  stop_is_fault at why h =
      let r = refused start IsText agrees means (items_of bytes h.0) (h.1, why) h.3 in
      let s = split bytes h.0 r.0 r.1 r.2 in
      let count : length s.1 ≡ h.1 = sym (length-items_of bytes s.1) ∙ ap (λ (xs : List Item). length xs) s.4 ∙ r.3 in
      let place : at ≡ place_of s.1 (length bytes) = h.4
      ∙ ap (λ (ts : List Token). place_left ts h.1 (length bytes)) s.2
      ∙ ap (λ (n : ℕ). place_left (s.0 ++ s.1) n (length bytes)) (sym count)
      ∙ place_left-append s.0 s.1 (length bytes) in (
        s.0,
        s.1,
        subst (AreTokens bytes) s.2 h.2,
        place,
        subst (λ (xs : List Item). IsFault IsText (items_of bytes s.0) xs why) (sym s.4)
            (subst (λ (xs : List Item). IsFault IsText xs r.1 why) (sym s.3) r.4),
      )

  one_stop : (at place : ℕ) (why what : Option LimitKind) → TextHasFault IsText bytes at why →
      StopsAt start bytes place what → (place ≡ at) × (what ≡ why)
  one_stop at place why what h k =
      let s = fault_stops start IsText agrees means one bytes at why k.0 h k.2 in
      let f = some_is (sym k.3 ∙ s.1) in (
        k.4 ∙ ap (λ (ts : List Token). place_left ts k.1 (length bytes)) s.0
            ∙ ap (λ (n : ℕ). place_left (h.0 ++ h.1) n (length bytes)) (ap (λ (g : Fault). g.0) f)
            ∙ place_left-append h.0 h.1 (length bytes) ∙ sym h.3,
        ap (λ (g : Fault). g.1) f,
      )

  derived_or_stop : (r : R) (at : ℕ) (why : Option LimitKind) → TextDerives IsText bytes r →
      StopsAt start bytes at why → ⊥
  derived_or_stop r at why d h =
      let same = one_list bytes d.0 h.0 d.1 h.2 in
      none_some (sym (derived_run start IsText agrees means (items_of bytes d.0) r d.2)
      ∙ ap (λ (ts : List Token). run start (items_of bytes ts)) same ∙ h.3)

  -- the clauses of a reader
  pub is_derived : (result : Result R SyntaxFault) → Settles IsText start bytes result →
      IfOk result (TextDerives IsText bytes)
  is_derived (Ok x) h = h
  is_derived (Err fault) h = tt

  pub is_only : (result : Result R SyntaxFault) → Settles IsText start bytes result → (r : R) →
      TextDerives IsText bytes r → IsAnswer r result
  is_only (Ok x) h r d = one_derived start IsText agrees means one bytes x r h d
  is_only (Err (Text at)) h r d = tokens_or_fault bytes d.0 at d.1 h
  is_only (Err (Syntax at)) h r d = derived_or_stop r at None d h
  is_only (Err (Limit at what)) h r d = derived_or_stop r at (Some what) d h
  is_only (Err OutOfMemory) h r d = tt

  pub is_fault_told : (result : Result R SyntaxFault) → Settles IsText start bytes result →
      IfErr result (TellsFault IsText bytes)
  is_fault_told (Ok x) h = tt
  is_fault_told (Err (Text at)) h = h
  is_fault_told (Err (Syntax at)) h = stop_is_fault at None h
  is_fault_told (Err (Limit at what)) h = stop_is_fault at (Some what) h
  is_fault_told (Err OutOfMemory) h = tt

  pub is_exact : (result : Result R SyntaxFault) → Settles IsText start bytes result → (fault : SyntaxFault) →
      HasFault IsText bytes fault → IsSyntaxFault fault result
  is_exact (Ok x) h (Text at) f = tokens_or_fault bytes h.0 at h.1 f
  is_exact (Ok x) h (Syntax at) f = derived_or_fault start IsText agrees means one bytes x at None h f
  is_exact (Ok x) h (Limit at what) f = derived_or_fault start IsText agrees means one bytes x at (Some what) h f
  is_exact (Ok x) h OutOfMemory f = f
  is_exact (Err OutOfMemory) h fault f = tt
  is_exact (Err (Text place)) h (Text at) f = ap Text (one_fault bytes place at h f)
  is_exact (Err (Text place)) h (Syntax at) f = absurd (tokens_or_fault bytes (f.0 ++ f.1) place f.2 h)
  is_exact (Err (Text place)) h (Limit at what) f = absurd (tokens_or_fault bytes (f.0 ++ f.1) place f.2 h)
  is_exact (Err (Text place)) h OutOfMemory f = absurd f
  is_exact (Err (Syntax place)) h (Text at) f = absurd (tokens_or_fault bytes h.0 at h.2 f)
  is_exact (Err (Syntax place)) h (Syntax at) f = ap Syntax (one_stop at place None None f h).0
  is_exact (Err (Syntax place)) h (Limit at what) f = absurd
      (limit_none (sym (one_stop at place (Some what) None f h).1))
  is_exact (Err (Syntax place)) h OutOfMemory f = absurd f
  is_exact (Err (Limit place which)) h (Text at) f = absurd (tokens_or_fault bytes h.0 at h.2 f)
  is_exact (Err (Limit place which)) h (Syntax at) f = absurd (limit_none (one_stop at place None (Some which) f h).1)
  is_exact (Err (Limit place which)) h (Limit at what) f =
      let s = one_stop at place (Some what) (Some which) f h in
      ap (λ (n : ℕ). Limit n which) s.0 ∙ ap (Limit at) (limit_is s.1)
  is_exact (Err (Limit place which)) h OutOfMemory f = absurd f
