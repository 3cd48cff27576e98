-- Spans of arguments, which stay when further arguments are added.
use Rattle.std.proofs.Common.{◌≡◌, ℕ, ◌+◌, ◌≤◌, List, [], ◌∷◌, ◌++◌, refl, ap, ◌∙◌, arith, map, length}
use Rattle.std.proofs.Common.{length-append, length-drop, take, drop}
use Rattle.std.specs.List.{AllByRecursion}
use Rattle.std.proofs.lemmas.List.{take-append-le, drop-append-le, map-append, take_all}
use Rattle.term_core.proofs.Items.{all_append}
use Rattle.bank_core.specs.declared.entries.Span.{Span}
use Rattle.bank_core.specs.Entries.{Entry, entry}

part_kept : {A : Type 0} (xs ys : List A) (start count : ℕ) → start + count ≤ length xs →
    take count (drop start (xs ++ ys)) ≡ take count (drop start xs)
part_kept xs ys start count le =
    rw (drop-append-le start xs ys (omega (arith, le)))
    (take-append-le count (drop start xs) ys (omega (arith, le, length-drop start xs)))

drop_all : {A : Type 0} (xs ys : List A) → drop (length xs) (xs ++ ys) ≡ ys
drop_all [] ys = refl
drop_all (x ∷ xs) ys = drop_all xs ys

module _ {H A : Type 0} where
  abbrev pub entries_of : List (Span H) → List A → List (Entry H A)
  entries_of spans xs = map (λ (s : Span H). entry s.head (take s.count (drop s.start xs))) spans

  abbrev pub InRange : List (Span H) → List A → Type 0
  InRange spans xs = AllByRecursion (λ (s : Span H). s.start + s.count ≤ length xs) spans

  pub entries_kept : (spans : List (Span H)) (xs ys : List A) → InRange spans xs →
      entries_of spans (xs ++ ys) ≡ entries_of spans xs
  entries_kept [] xs ys h = refl
  entries_kept (s ∷ ss) xs ys h =
      let one : entry s.head (take s.count (drop s.start (xs ++ ys))) ≡
      entry s.head (take s.count (drop s.start xs)) =
      ap (λ ps. entry s.head ps) (part_kept xs ys s.start s.count h.0) in
      let rest = entries_kept ss xs ys h.1 in
      cc

  pub range_kept : (spans : List (Span H)) (xs ys : List A) → InRange spans xs → InRange spans (xs ++ ys)
  range_kept [] xs ys h = tt
  range_kept (s ∷ ss) xs ys h = (omega (arith, h.0, length-append xs ys), range_kept ss xs ys h.1)

module _ {H A : Type 0} (spans : List (Span H)) (xs ys : List A) (s : Span H) (h : InRange spans xs)
    (start : s.start ≡ length xs) (count : s.count ≡ length ys) where
  pub range_more : InRange (spans ++ s ∷ []) (xs ++ ys)
  range_more = all_append (λ (s : Span H). s.start + s.count ≤ length (xs ++ ys)) spans (s ∷ []) (range_kept
      spans xs ys h) (omega (arith, start, count, length-append xs ys), tt)

  here : take s.count (drop s.start (xs ++ ys)) ≡ ys
  here =
      let d : drop s.start (xs ++ ys) ≡ ys = rw start (drop_all xs ys) in
      rw (d, count) (take_all (length ys) ys (omega arith))

  pub entries_more : entries_of (spans ++ s ∷ []) (xs ++ ys) ≡ entries_of spans xs ++ entry s.head ys ∷ []
  entries_more =
      let new = take s.count (drop s.start (xs ++ ys)) in
      let one : entry s.head new ≡ entry s.head ys = ap (λ ps. entry s.head ps) here in
      map-append (λ (s : Span H). entry s.head (take s.count (drop s.start (xs ++ ys)))) spans (s ∷ []) ∙
      ap (λ es. es ++ entry s.head new ∷ []) (entries_kept spans xs ys h) ∙
      ap (λ e. entries_of spans xs ++ e ∷ []) one
