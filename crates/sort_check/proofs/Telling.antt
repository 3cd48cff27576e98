-- First faults of searches that are made of others.
use Rattle.std.proofs.Common.{◌≡◌, ℕ, ◌<◌, List, [], inl, inr, sym, subst, Err, get_or, length, take}
use Rattle.std.specs.Prelude.{Result}
use Rattle.spec_core.specs.Findings.{Search, then, Clean, each, each_after}
use Rattle.spec_core.proofs.Findings.{each_stops, after_stops}
use Rattle.sort_check.specs.declared.faults.SortFault.{SortFault}
use Rattle.sort_check.specs.declared.faults.SortFault.TheVariants.{Sort, OutOfMemory}
use Rattle.sort_check.specs.Answers.{Tells, Answers}

-- a fault of the first part, and of the second if the first finds nothing
pub tells_first : (s t : Search SortFault) (e : SortFault) → Tells s e → Tells (then s t) e
tells_first s t (Sort at kind) f = inl f
tells_first s t OutOfMemory f = tt

pub tells_then : (s t : Search SortFault) (e : SortFault) → Clean s → Tells t e → Tells (then s t) e
tells_then s t (Sort at kind) c f = inr (c, f)
tells_then s t OutOfMemory c f = tt

pub answer_err : {T : Type 0} (s : Search SortFault) (P : T → Type 0) (r : Result T SortFault) (e : SortFault) →
    r ≡ Err e → Tells s e → Answers s P r
answer_err s P r e q f = subst (λ x. Answers s P x) (sym q) f

-- a fault at one of a list, if nothing is found before
module _ {A : Type 0} (f : A → Search SortFault) (xs : List A) (i : ℕ) where
  pub each_tells : (x : A) (e : SortFault) → i < length xs → x ≡ get_or xs i x → Clean (each f (take i xs)) →
      Tells (f x) e → Tells (each f xs) e
  each_tells x (Sort at kind) lt is c h = each_stops f xs i x (Sort at kind) lt is c h
  each_tells x OutOfMemory lt is c h = tt

module _ {A : Type 0} (f : List A → A → Search SortFault) (xs : List A) (i : ℕ) where
  pub after_tells : (x : A) (e : SortFault) → i < length xs → x ≡ get_or xs i x →
      Clean (each_after f [] (take i xs)) → Tells (f (take i xs) x) e → Tells (each_after f [] xs) e
  after_tells x (Sort at kind) lt is c h = after_stops f xs i x (Sort at kind) lt is c h
  after_tells x OutOfMemory lt is c h = tt
