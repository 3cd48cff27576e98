-- The list of terms at the front of some bytes.
use Rattle.std.proofs.Common.{◌≡◌, ℕ, List, [], ◌∷◌, ◌++◌, refl, ap, sym, ◌∙◌, codes, map, flat_map, append_assoc}
use Rattle.std.proofs.Common.{append-nil, arith}
use Rattle.std.specs.List.{AllByRecursion}
use Rattle.term_core.specs.Tree.{Tree}
use Rattle.spec_core.specs.Sig.{Sig}
use Rattle.proof_script.specs.Words.{in_brackets, with_commas}
use Rattle.proof_script.specs.Written.{text_by}
use Rattle.proof_script.specs.Delimiters.{Ends}
use Rattle.proof_script.specs.Reading.{IsReadable, IsTermAt, IsListAt}
use Rattle.proof_script.specs.declared.words.Variables.{Variables}
use Rattle.proof_script.proofs.Lists.{same_head, same_tail}
use Rattle.proof_script.proofs.TermReads.{NamesDiffer}
use Rattle.proof_script.proofs.TermsAt.{one_term}

module _ (sig : Sig) (v : Variables) where
  abbrev text_of : Tree → List ℕ
  text_of t = text_by sig v t

  -- terms after the first one
  abbrev pub further : List Tree → List ℕ
  further ts = flat_map (λ u. codes ", " ++ u) (map text_of ts)

  -- terms with `, ` after each
  abbrev pub before : List Tree → List ℕ
  before ts = flat_map (λ t. text_of t ++ codes ", ") ts

  abbrev pub AreItems : List Tree → Type 0
  AreItems ts = AllByRecursion (IsReadable sig v 100 0) ts

  -- each list that is at the front goes on with these bytes
  pub record GoesOn (bytes rest : List ℕ) (ts : List Tree) (r : List ℕ) : Type 0 where
    pub first : Tree
    pub others : List Tree
    pub items : AreItems (first ∷ others)
    pub is : rest ≡ text_of first ++ (further others ++ (93 ∷ r))

  abbrev pub AllGoOn : List ℕ → List ℕ → Type 0
  AllGoOn bytes rest = (ts : List Tree) (r : List ℕ) → IsListAt sig v bytes ts r → GoesOn bytes rest ts r

  pub further_ends : (ts : List Tree) (r : List ℕ) → Ends (further ts ++ (93 ∷ r))
  further_ends [] r = refl
  further_ends (t ∷ ts) r = refl

  further_is : (t : Tree) (ts : List Tree) → further (t ∷ ts) ≡ codes ", " ++ with_commas (map text_of (t ∷ ts))
  further_is t ts = append_assoc (codes ", ") (text_of t) (further ts)

  last_of : (ts : List Tree) (t : Tree) → with_commas (map text_of (ts ++ (t ∷ []))) ≡ before ts ++ text_of t
  last_of [] t = append-nil (text_of t)
  last_of (x ∷ []) t = ap (λ z. text_of x ++ z) (further_is t [] ∙ ap (λ z. codes ", " ++ z) (append-nil (text_of t)))
      ∙ sym (append_assoc (text_of x) (codes ", ") (text_of t))
      ∙ ap (λ z. z ++ text_of t) (sym (append-nil (text_of x ++ codes ", ")))
  last_of (x ∷ (y ∷ ts)) t = ap (λ z. text_of x ++ z) (further_is y (ts ++ (t ∷ []))
      ∙ ap (λ z. codes ", " ++ z) (last_of (y ∷ ts) t))
      ∙ sym (append_assoc (text_of x) (codes ", ") (before (y ∷ ts) ++ text_of t))
      ∙ sym (append_assoc (text_of x ++ codes ", ") (before (y ∷ ts)) (text_of t))

  -- a list that isn't empty has a first term after the bracket
  pub goes_on_first : (bytes rest : List ℕ) → bytes ≡ codes "[" ++ rest →
      ((r : List ℕ) → rest ≡ codes "]" ++ r → ⊥) → AllGoOn bytes rest
  goes_on_first bytes rest e never [] r h = absurd (never r (same_tail (sym e ∙ h.is)))
  goes_on_first bytes rest e never (t ∷ ts) r h = record {
    first = t;
    others = ts;
    items = h.items;
    is = same_tail (sym e ∙ h.is) ∙ append_assoc (text_of t ++ further ts) (codes "]") r
        ∙ append_assoc (text_of t) (further ts) (93 ∷ r);
  }

  pub no_item : (bytes rest : List ℕ) → AllGoOn bytes rest →
      ((t : Tree) (r : List ℕ) → IsTermAt sig v 100 0 rest t r → ⊥) → (ts : List Tree) (r : List ℕ) →
      IsListAt sig v bytes ts r → ⊥
  no_item bytes rest all never ts r h = let g = all ts r h in
      never g.first (further g.others ++ (93 ∷ r))
      (record { readable = g.items.0; is = g.is; ends = further_ends g.others r })

  -- after a term that was read come the others
  pub record Behind (behind : List ℕ) (r : List ℕ) : Type 0 where
    pub others : List Tree
    pub items : AreItems others
    pub is : behind ≡ further others ++ (93 ∷ r)

  behind_term : NamesDiffer sig → (bytes rest : List ℕ) (t : Tree) (behind : List ℕ) → AllGoOn bytes rest →
      IsTermAt sig v 100 0 rest t behind → (ts : List Tree) (r : List ℕ) → IsListAt sig v bytes ts r → Behind behind r
  behind_term d bytes rest t behind all x ts r h =
      let g = all ts r h in
      let one = one_term sig d v 100 0 g.first t (further g.others ++ (93 ∷ r)) behind g.items.0 x.readable
      (further_ends g.others r) x.ends (sym g.is ∙ x.is) in
      record { others = g.others; items = g.items.1; is = sym one.1 }

  pub no_sign : NamesDiffer sig → (bytes rest : List ℕ) (t : Tree) (behind : List ℕ) → AllGoOn bytes rest →
      IsTermAt sig v 100 0 rest t behind → ((r : List ℕ) → behind ≡ codes "]" ++ r → ⊥) →
      ((r : List ℕ) → behind ≡ codes ", " ++ r → ⊥) → (ts : List Tree) (r : List ℕ) → IsListAt sig v bytes ts r → ⊥
  no_sign d bytes rest t behind all x unclosed alone ts r h = by b.others b.is
    where
      b : Behind behind r
      b = behind_term d bytes rest t behind all x ts r h

      by : (us : List Tree) → behind ≡ further us ++ (93 ∷ r) → ⊥
      by [] e = unclosed r e
      by (u ∷ us) e = alone (text_of u ++ (further us ++ (93 ∷ r)))
          (e ∙ append_assoc (codes ", " ++ text_of u) (further us) (93 ∷ r)
          ∙ append_assoc (codes ", ") (text_of u) (further us ++ (93 ∷ r)))

  pub goes_on_next : NamesDiffer sig → (bytes rest : List ℕ) (t : Tree) (behind next : List ℕ) →
      AllGoOn bytes rest → IsTermAt sig v 100 0 rest t behind → behind ≡ codes ", " ++ next → AllGoOn bytes next
  goes_on_next d bytes rest t behind next all x e ts r h = by b.others b.items b.is
    where
      b : Behind behind r
      b = behind_term d bytes rest t behind all x ts r h

      by : (us : List Tree) → AreItems us → behind ≡ further us ++ (93 ∷ r) → GoesOn bytes next ts r
      by [] i q = absurd (let n : 44 ≡ 93 = same_head (sym e ∙ q) in omega (arith, n))
      by (u ∷ us) i q = record {
        first = u;
        others = us;
        items = i;
        is = same_tail
            (same_tail (sym e ∙ q ∙ append_assoc (codes ", " ++ text_of u) (further us) (93 ∷ r)
            ∙ append_assoc (codes ", ") (text_of u) (further us ++ (93 ∷ r))));
      }

  -- what was read grows by a term
  pub read_next : (bytes rest : List ℕ) (ts : List Tree) (t : Tree) (behind next : List ℕ) →
      bytes ≡ codes "[" ++ (before ts ++ rest) → rest ≡ text_of t ++ behind → behind ≡ codes ", " ++ next →
      bytes ≡ codes "[" ++ (before (ts ++ (t ∷ [])) ++ next)
  read_next bytes rest ts t behind next e f g =
      e ∙ ap (λ z. codes "[" ++ (before ts ++ z)) (f ∙ ap (λ z. text_of t ++ z) g
      ∙ sym (append_assoc (text_of t) (codes ", ") next))
      ∙ ap (λ z. codes "[" ++ z) (sym (append_assoc (before ts) (text_of t ++ codes ", ") next)
      ∙ ap (λ z. z ++ next) (sym (before_more ts)))
    where
      before_more : (ts : List Tree) → before (ts ++ (t ∷ [])) ≡ before ts ++ (text_of t ++ codes ", ")
      before_more [] = append-nil (text_of t ++ codes ", ")
      before_more (x ∷ ts) = ap (λ z. (text_of x ++ codes ", ") ++ z) (before_more ts)
          ∙ sym (append_assoc (text_of x ++ codes ", ") (before ts) (text_of t ++ codes ", "))

  pub list_found : (bytes rest : List ℕ) (ts : List Tree) (t : Tree) (behind last : List ℕ) →
      bytes ≡ codes "[" ++ (before ts ++ rest) → rest ≡ text_of t ++ behind → behind ≡ codes "]" ++ last →
      bytes ≡ in_brackets (with_commas (map text_of (ts ++ (t ∷ [])))) ++ last
  list_found bytes rest ts t behind last e f g =
      e ∙ ap (λ z. codes "[" ++ (before ts ++ z)) (f ∙ ap (λ z. text_of t ++ z) g)
      ∙ ap (λ z. codes "[" ++ z) (sym (append_assoc (before ts) (text_of t) (93 ∷ last))
      ∙ ap (λ z. z ++ (93 ∷ last)) (sym (last_of ts t))
      ∙ sym (append_assoc (with_commas (map text_of (ts ++ (t ∷ [])))) (codes "]") last))
