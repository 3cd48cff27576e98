-- What is left of a list of which no item so far has a result: its first result is that of the
-- whole list.
use Rattle.std.proofs.Common.{List, [], ◌∷◌, ◌++◌, inl, inr}
use Rattle.std.specs.Prelude.{Option, Some, None}
use Rattle.routine_proof.specs.First.{HasNone, FirstIs, NoneIs, IsFirst}
use Rattle.routine_proof.proofs.Firsts.{first_left, first_right, none_both}

module _ {A R : Type 0} (is : A → R → Type 0) where
  pub record IsLeft (all rest : List A) : Type 0 where
    pub first : (r : R) → FirstIs is rest r → FirstIs is all r
    pub none : NoneIs is rest → NoneIs is all

  pub left_all : (all : List A) → IsLeft all all
  left_all all = record { first = λ r p. p; none = λ n. n }

  pub left_item :
      (all rest : List A) (a : A) → IsLeft all (a ∷ rest) → HasNone is a → IsLeft all rest
  left_item all rest a l none =
      record { first = λ r p. l.first r (inr (none, p)); none = λ n. l.none (none, n) }

  pub left_list :
      (all items rest : List A) → IsLeft all (items ++ rest) → NoneIs is items → IsLeft all rest
  left_list all items rest l none = record {
    first = λ r p. l.first r (first_right is items rest r none p);
    none = λ n. l.none (none_both is items rest none n);
  }

  pub found_item :
      (all rest : List A) (a : A) (r : R) → IsLeft all (a ∷ rest) → is a r → FirstIs is all r
  found_item all rest a r l p = l.first r (inl p)

  pub found_list :
      (all items rest : List A) (r : R) →
      IsLeft all (items ++ rest) → FirstIs is items r → FirstIs is all r
  found_list all items rest r l p = l.first r (first_left is items rest r p)

  pub left_end : (all : List A) → IsLeft all [] → NoneIs is all
  left_end all l = l.none tt

  -- the answer for what is left is that for the whole list
  pub left_answer :
      (all rest : List A) (o : Option R) → IsLeft all rest → IsFirst is rest o → IsFirst is all o
  left_answer all rest None l p = l.none p
  left_answer all rest (Some r) l p = l.first r p
