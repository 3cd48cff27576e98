-- The symbols of sorts, and texts of sorts with one more constructor or sort.
use Rattle.std.proofs.Common.{◌≡◌, ℕ, zero, suc, ◌+◌, ◌<◌, List, [], ◌∷◌, ◌++◌, ◌⊎◌, inl, inr, None, length, refl, ap}
use Rattle.std.proofs.Common.{sym, ◌∙◌, add-zero, add-one, arith}
use Rattle.spec_grammar.specs.declared.keys.Key.TheVariants.{Sort, Equals, Bar}
use Rattle.spec_grammar.specs.declared.raw.RawNames.{RawNames}
use Rattle.spec_grammar.specs.declared.raw.RawSort.{RawSort}
use Rattle.spec_grammar.specs.Items.{Item, Word, Sign, Number}
use Rattle.spec_grammar.specs.Grammar.{Marked, sign, name_text, con_text, constructors_text, AreSorts}
use Rattle.spec_grammar.specs.Limits.{sort_mark, constructor_mark}
use Rattle.spec_grammar.specs.Symbols.{Symbol, name, names, sorts, run}
use Rattle.spec_syntax.specs.Reading.{Lacks}
use Rattle.spec_syntax.specs.ReadingSorts.{begun_text, sort_text, sort_symbols}
use Rattle.spec_syntax.proofs.Grow.{next_is}

-- a bar goes on with a sort that has constructors
pub bar_takes : (version n k t : ℕ) (items next : List Item) (st : List Symbol) → 0 < k →
    items ≡ Sign Bar ∷ next →
    run (sorts version n k t ∷ st) items ≡ run (name (constructor_mark version k t) ∷ names ∷ sorts version n
    (k + 1) (t + 1) ∷ st) next
unfolding run
bar_takes version n zero t items next st h e = absurd (omega arith)
bar_takes version n (suc k) t items next st h e = rw e
    (ap (λ (j : ℕ). run (name (constructor_mark version (suc k) t) ∷ names ∷ sorts version n j (t + 1) ∷ st)
    next) (sym (add-one (suc k))))

pub sort_takes : (version n k t : ℕ) (items next : List Item) (st : List Symbol) → items ≡ Sign Sort ∷ next →
    sort_mark n ≡ None → run (sorts version n k t ∷ st) items ≡ run (sort_symbols version (n + 1) t ++ st) next
unfolding run
sort_takes version n k t items next st e m = rw (e, m) refl

bar_skips : (version n k t : ℕ) (items : List Item) (st : List Symbol) →
    (k ≡ 0) ⊎ Lacks Bar (Sign Bar ∷ items) →
    run (sorts version n k t ∷ st) (Sign Bar ∷ items) ≡ run st (Sign Bar ∷ items)
unfolding run
bar_skips version n zero t items st h = refl
bar_skips version n (suc k) t items st (inl e) = absurd (omega (arith, e))
bar_skips version n (suc k) t items st (inr h) = absurd (h refl)

-- neither a sort nor a constructor follows
pub sorts_end : (version n k t : ℕ) (items : List Item) (st : List Symbol) → Lacks Sort items →
    (k ≡ 0) ⊎ Lacks Bar items → run (sorts version n k t ∷ st) items ≡ run st items
unfolding run
sorts_end version n k t [] st h b = refl
sorts_end version n k t (Word c a ∷ items) st h b = refl
sorts_end version n k t (Number m ∷ items) st h b = refl
sorts_end version n k t (Sign Sort ∷ items) st h b = absurd (h refl)
sorts_end version n k t (Sign Bar ∷ items) st h b = bar_skips version n k t items st b
sorts_end version n k t (Sign _ ∷ items) st h b = refl

constructors_grow : (version k t : ℕ) (cs : List RawNames) (c : RawNames) (v : List Marked) →
    constructors_text version k t (cs ++ c ∷ []) v ≡ constructors_text version k t cs
    (sign Bar ∷ con_text (constructor_mark version (k + length cs) (t + length cs)) c v)
constructors_grow version k t [] c v = ap (λ (j : ℕ). sign Bar ∷ con_text (constructor_mark version j t) c v)
    (sym (add-zero k)) ∙ ap (λ (j : ℕ). sign Bar ∷ con_text (constructor_mark version (k + 0) j) c v) (sym (add-zero t))
constructors_grow version k t (d ∷ cs) c v =
    let inner = constructors_grow version (k + 1) (t + 1) cs c v in
    let first = ap (λ (j : ℕ). constructors_text version (k + 1) (t + 1) cs
    (sign Bar ∷ con_text (constructor_mark version j (t + 1 + length cs)) c v)) (next_is k d cs) in
    let second = ap (λ (j : ℕ). constructors_text version (k + 1) (t + 1) cs
    (sign Bar ∷ con_text (constructor_mark version (k + length (d ∷ cs)) j) c v)) (next_is t d cs) in
    ap (λ (w : List Marked). sign Bar ∷ con_text (constructor_mark version k t) d w) (inner ∙ first ∙ second)

pub begun_grows : (version t : ℕ) (cs : List RawNames) (c : RawNames) (v : List Marked) → 0 < length cs →
    begun_text version t (cs ++ c ∷ []) v ≡ begun_text version t cs
    (sign Bar ∷ con_text (constructor_mark version (length cs) (t + length cs)) c v)
begun_grows version t [] c v h = absurd (omega arith)
begun_grows version t (d ∷ cs) c v h =
    let one : 1 + length cs ≡ length (d ∷ cs) = omega arith in
    let all : t + 1 + length cs ≡ t + length (d ∷ cs) = omega arith in
    let inner = constructors_grow version 1 (t + 1) cs c v in
    let first = ap (λ (j : ℕ). constructors_text version 1 (t + 1) cs
    (sign Bar ∷ con_text (constructor_mark version j (t + 1 + length cs)) c v)) one in
    let second = ap (λ (j : ℕ). constructors_text version 1 (t + 1) cs
    (sign Bar ∷ con_text (constructor_mark version (length (d ∷ cs)) j) c v)) all in
    ap (λ (w : List Marked). con_text (constructor_mark version 0 t) d w) (inner ∙ first ∙ second)

-- how many constructors the sorts have
abbrev pub counted : List RawSort → ℕ
counted [] = 0
counted (s ∷ ss) = length s.constructors + counted ss

pub counted-append : (ss : List RawSort) (s : RawSort) → counted (ss ++ s ∷ []) ≡ counted ss + length s.constructors
counted-append [] s = omega arith
counted-append (x ∷ ss) s = omega (arith, counted-append ss s)

one_sort : (version n t : ℕ) (s : RawSort) (cs : List RawNames) (w v : List Marked) → s.constructors ≡ cs →
    0 < length cs → w ≡ (Sign Sort, sort_mark n) ∷ sort_text version t s v → AreSorts version n t (s ∷ []) w v
one_sort version n t s [] w v e h f = absurd (omega arith)
one_sort version n t s (c ∷ cs) w v e h f = (
  c,
  cs,
  v,
  e,
  f ∙ ap (λ (ds : List RawNames). (Sign Sort, sort_mark n) ∷ name_text None s.head
      (sign Equals ∷ begun_text version t ds v)) e,
  refl,
)

-- one more sort
pub sorts_grow : (version n t : ℕ) (ss : List RawSort) (s : RawSort) (w u v : List Marked) →
    AreSorts version n t ss w u → 0 < length s.constructors →
    u ≡ (Sign Sort, sort_mark (n + length ss)) ∷ sort_text version (t + counted ss) s v →
    AreSorts version n t (ss ++ s ∷ []) w v
sorts_grow version n t [] s w u v a h f =
    let number = ap (λ (k : ℕ). (Sign Sort, sort_mark k) ∷ sort_text version (t + 0) s v) (add-zero n) in
    let total = ap (λ (k : ℕ). (Sign Sort, sort_mark n) ∷ sort_text version k s v) (add-zero t) in
    one_sort version n t s s.constructors w v refl h (a ∙ f ∙ number ∙ total)
sorts_grow version n t (x ∷ ss) s w u v a h f =
    let others = a.1 in
    let size = ap (λ (cs : List RawNames). length cs) a.3 in
    let sum : t + counted (x ∷ ss) ≡ t + 1 + length others + counted ss = omega (arith, size) in
    let number = ap (λ (k : ℕ). (Sign Sort, sort_mark k) ∷ sort_text version (t + counted (x ∷ ss)) s v)
    (sym (next_is n x ss)) in
    let total = ap (λ (k : ℕ). (Sign Sort, sort_mark (n + 1 + length ss)) ∷ sort_text version k s v) sum in (
      a.0,
      a.1,
      a.2,
      a.3,
      a.4,
      sorts_grow version (n + 1) (t + 1 + length others) ss s a.2 u v a.5 h (f ∙ number
          ∙ total),
    )
