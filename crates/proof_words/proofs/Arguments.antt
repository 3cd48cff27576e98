-- A term that is drawn: its arguments, one after the other, and the whole of it.
use Rattle.std.proofs.Common.{◌≡◌, ℕ, suc, ◌+◌, ◌<◌, List, [], ◌∷◌, ◌++◌, Option, ap, sym, ◌∙◌, codes, length, drop}
use Rattle.std.proofs.Common.{get_or, slice_get, arith}
use Rattle.term_core.specs.Tree.{Tree, app, some, trees_of}
use Rattle.spec_core.specs.Sig.{Sig, names_of}
use Rattle.spec_core.specs.TermText.{symbol_text}
use Rattle.page_core.specs.Events.{Event, text}
use Rattle.page_core.specs.Pages.{PageValue, after}
use Rattle.page_core.specs.declared.parts.Style.{Style}
use Rattle.proof_words.specs.TermEvents.{style_of, mark_in, term_events, others_events}
use Rattle.proof_words.proofs.Joined.{left}
use Rattle.proof_words.proofs.Items.{split_at}

module _ (sig : Sig) (names : List (List ℕ)) (mark : Option (List ℕ)) (depth : ℕ) where
  -- the arguments after the first one from a place on, where the argument at this place has the
  -- number i + 2
  abbrev pub others_from : ℕ → List Tree → List Event
  others_from i ts = others_events sig names mark (i + 2) depth (trees_of ts)

  -- the events of the arguments from a place on: those of the one there, and of the others
  others_next :
      (ts : List Tree) (i : ℕ) (t : Tree) → i < length ts → t ≡ get_or ts i t →
      others_from i (drop i ts)
      ≡ text (style_of mark) (codes ", ")
      ∷ (term_events sig names (mark_in (i + 2) mark) depth t ++ others_from (i + 1) (drop (i + 1) ts))
  others_next ts i t lt is =
      let first = term_events sig names (mark_in (i + 2) mark) depth t in
      let rest : ℕ → List Event = λ n. others_events sig names mark n depth (trees_of (drop (i + 1) ts)) in
      let number : suc (i + 2) ≡ i + 1 + 2 = omega arith in
      ap (others_from i) (split_at ts i t lt is)
      ∙ ap (λ n. text (style_of mark) (codes ", ") ∷ (first ++ rest n)) number

  -- once the argument at a place is drawn, those after it are left
  pub others_left :
      (ts : List Tree) (i : ℕ) (t : Tree) → i < length ts → t ≡ get_or ts i t →
      (p q r : PageValue) →
      q ≡ after p (text (style_of mark) (codes ", ") ∷ []) →
      r ≡ after q (term_events sig names (mark_in (i + 2) mark) depth t) →
      after r (others_from (i + 1) (drop (i + 1) ts)) ≡ after p (others_from i (drop i ts))
  others_left ts i t lt is p q r h k =
      let first = term_events sig names (mark_in (i + 2) mark) depth t in
      let rest = others_from (i + 1) (drop (i + 1) ts) in
      left q r first rest k
      ∙ left p q (text (style_of mark) (codes ", ") ∷ []) (first ++ rest) h
      ∙ ap (after p) (sym (others_next ts i t lt is))

  -- a symbol, its first argument, the others, and the parentheses round them make the term
  pub all_drawn :
      (f : ℕ) (ts us : List Tree) (t term : Tree) (style : Style) (name : List ℕ)
      (inner : Option (List ℕ)) →
      style ≡ style_of mark → name ≡ symbol_text (slice_get (names_of sig) f) →
      inner ≡ mark_in 1 mark → ts ≡ t ∷ us → app f (trees_of ts) ≡ term →
      (p q r s u : PageValue) →
      q ≡ after p (text style name ∷ []) → r ≡ after q (text style (codes "(") ∷ []) →
      s ≡ after r (term_events sig names inner depth t) →
      u ≡ after s (others_events sig names mark 2 depth (trees_of us)) →
      after u (text style (codes ")") ∷ []) ≡ after p (term_events sig names mark (suc depth) term)
  all_drawn f ts us t term style name inner is_style is_name is_inner is is_term p q r s u h₁ h₂ h₃ h₄ =
      let shown : Tree → List Event = λ v. term_events sig names mark (suc depth) v in
      let close = text style (codes ")") ∷ [] in
      let first = term_events sig names inner depth t in
      let rest = others_events sig names mark 2 depth (trees_of us) ++ close in
      let all = text style name ∷ text style (codes "(") ∷ (first ++ rest) in
      let drawn : after u close ≡ after p all =
      left s u (others_events sig names mark 2 depth (trees_of us)) close h₄
      ∙ left r s first rest h₃
      ∙ left q r (text style (codes "(") ∷ []) (first ++ rest) h₂
      ∙ left p q (text style name ∷ []) (text style (codes "(") ∷ (first ++ rest)) h₁ in
      let own : after p all ≡ after p (shown (app f (some t (trees_of us)))) = cc in
      let whole : app f (some t (trees_of us)) ≡ term =
      ap (λ xs. app f (trees_of xs)) (sym is) ∙ is_term in
      drawn ∙ own ∙ ap (λ v. after p (shown v)) whole
