-- What is known within a move: the value at a place, what a move after it left, and the arguments of a value.
use Rattle.std.proofs.Common.{◌≡◌, ℕ, ◌+◌, ◌<◌, List, [], ◌∷◌, ◌++◌, Option, None, Bool, false, length, take, drop, get_or}
use Rattle.std.proofs.Common.{refl, ap, sym, ◌∙◌, subst}
use Rattle.std.specs.Prelude.{Contains}
use Rattle.std.proofs.lemmas.Option.{slice_get_read}
use Rattle.term_core.specs.Tree.{Tree, trees_of}
use Rattle.term_core.specs.declared.ids.SortId.{SortId}
use Rattle.term_core.proofs.Items.{drop_here}
use Rattle.term_core.proofs.Members.{in_contained}
use Rattle.spec_core.specs.Sig.{Sig}
use Rattle.value_bank.specs.Cells.{Cell, IsTerm, AreTerms, AddsCells}
use Rattle.value_bank.proofs.Terms.{term_kept}
use Rattle.rule_code.proofs.Joined.{drop_whole}
use Rattle.ground_eval.proofs.Lists.{take_here}
use Rattle.refuter.specs.Bounded.{rows_within}
use Rattle.refuter.specs.Moves.{GoesOn}
use Rattle.refuter.proofs.Steps.{Parted, parted, place_within, goes_false, last_same, cut_back}

-- the value at a place of a row, and those after it
pub record ValueAt (cells : List Cell) (row : List ℕ) (place p : ℕ) (values : List Tree) : Type 0 where
  pub within : place < length row
  pub part : Parted cells p (drop (place + 1) row) values
  pub taken : take (place + 1) row ≡ take place row ++ p ∷ []

pub value_at :
    (sig : Sig) (cells : List Cell) (depth : ℕ) (sorts : List SortId) (sort : SortId) (others : List SortId)
    (bound place : ℕ) (row : List ℕ) (p : ℕ) (values : List Tree) → sorts ≡ sort ∷ others →
    AreTerms cells (drop place row) (trees_of values) → Contains (rows_within sig depth sorts bound) values →
    p ≡ get_or row place p → ValueAt cells row place p values
value_at sig cells depth sorts sort others bound place row p values split stand listed is =
    let within =
    place_within sig cells depth sorts sort others bound place row values split stand (in_contained _ _ listed) in
    let at = slice_get_read row (length row) place p refl within is in
    record {
      within = within;
      part = parted cells (drop place row) p (drop (place + 1) row) values (drop_here row place p at) stand;
      taken = take_here row place p at;
    }

-- the value at the place is taken off once the values after it have no next row
pub record Popped (next : List Cell) (row left : List ℕ) (place value : ℕ) (first : Tree) (after : Option (List Tree))
    : Type 0 where
  pub ends : after ≡ None
  pub kept : left ≡ take place row
  pub term : IsTerm next value first

pub popped :
    (cells sized next : List Cell) (row moved left : List ℕ) (place p value : ℕ) (first : Tree)
    (after : Option (List Tree)) (went : Bool) → sized ≡ cells → AddsCells sized next → IsTerm cells p first →
    take (place + 1) row ≡ take place row ++ p ∷ [] → GoesOn next (take (place + 1) row) after moved went →
    went ≡ false → moved ≡ left ++ value ∷ [] → Popped next row left place value first after
popped cells sized next row moved left place p value first after went same adds here taken goes stops pops =
    let w = goes_false next (take (place + 1) row) after moved went goes stops in
    let k = last_same (take place row) left p value (sym (w.1 ∙ taken) ∙ pops) in
    record {
      ends = w.0;
      kept = sym k.0;
      term = subst (λ n. IsTerm next n first) k.1
          (term_kept cells next p first (subst (λ b. AddsCells b next) same adds) here);
    }

-- the places of a value's arguments are after the row, which is kept
pub record Extended (cells : List Cell) (row long : List ℕ) (start : ℕ) (args : List Tree) : Type 0 where
  pub stand : AreTerms cells (drop start long) (trees_of args)
  pub kept : take start long ≡ row

pub extended :
    (cells : List Cell) (row long places : List ℕ) (start : ℕ) (args : List Tree) → long ≡ row ++ places →
    start ≡ length row → AreTerms cells places (trees_of args) → Extended cells row long start args
extended cells row long places start args joined begins stand =
    let behind : drop start long ≡ places =
    ap (λ xs. drop start xs) joined ∙ ap (λ n. drop n (row ++ places)) begins ∙ drop_whole row places in
    record {
      stand = subst (λ ps. AreTerms cells ps (trees_of args)) (sym behind) stand;
      kept = cut_back row long places start joined begins;
    }
