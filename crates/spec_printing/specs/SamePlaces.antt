-- Raw specifications that are the same apart from the places of their names.
use Rattle.std.specs.Prelude.{◌≡◌, Option, Some, None}
use Rattle.std.specs.List.{AllZip}
use Rattle.spec_grammar.specs.declared.raw.RawName.{RawName}
use Rattle.spec_grammar.specs.declared.raw.RawNames.{RawNames}
use Rattle.spec_grammar.specs.declared.raw.RawSort.{RawSort}
use Rattle.spec_grammar.specs.declared.raw.RawFun.{RawFun}
use Rattle.spec_grammar.specs.declared.raw.RawEqual.{RawEqual}
use Rattle.spec_grammar.specs.declared.raw.RawStatus.{RawStatus}
use Rattle.spec_grammar.specs.declared.raw.RawWeight.{RawWeight}
use Rattle.spec_grammar.specs.declared.raw.RawOrder.{RawOrder}
use Rattle.spec_grammar.specs.declared.raw.RawEq.{RawEq}
use Rattle.spec_grammar.specs.declared.raw.RawGuard.{RawGuard}
use Rattle.spec_grammar.specs.declared.raw.RawRule.{RawRule}
use Rattle.spec_grammar.specs.declared.raw.RawBind.{RawBind}
use Rattle.spec_grammar.specs.declared.raw.RawGoal.{RawGoal}
use Rattle.spec_grammar.specs.declared.raw.RawSpec.{RawSpec}
use Rattle.spec_grammar.specs.RawTree.{RawTree, RawTrees, word, none, some}

-- names of the same bytes
abbrev pub SameName : RawName → RawName → Type 0
SameName n k = n.name ≡ k.name

-- the same name with the same names in parentheses
abbrev pub SameNames : RawNames → RawNames → Type 0
SameNames c d = (c.name ≡ d.name) × AllZip SameName c.args d.args

-- the same words in the same parentheses
abbrev mutual
  pub SameTerm : RawTree → RawTree → Type 0
  SameTerm (word b at ts) (word c place us) = (b ≡ c) × SameTerms ts us

  pub SameTerms : RawTrees → RawTrees → Type 0
  SameTerms none none = Unit {0}
  SameTerms none (some u us) = ⊥
  SameTerms (some t ts) none = ⊥
  SameTerms (some t ts) (some u us) = SameTerm t u × SameTerms ts us

-- the same name and constructors
abbrev pub SameSort : RawSort → RawSort → Type 0
SameSort s t = SameName s.head t.head × AllZip SameNames s.constructors t.constructors

-- the same name, argument sorts and result sort
abbrev pub SameFun : RawFun → RawFun → Type 0
SameFun f g = SameNames f.head g.head × SameName f.result g.result

-- the same functions
abbrev pub SameEqual : RawEqual → RawEqual → Type 0
SameEqual e f = AllZip SameName e.names f.names

-- the same function and numbers
abbrev pub SameStatus : RawStatus → RawStatus → Type 0
SameStatus s t = SameName s.head t.head × (s.numbers ≡ t.numbers)

-- the same symbol and weight
abbrev pub SameWeight : RawWeight → RawWeight → Type 0
SameWeight w x = SameName w.name x.name × (w.weight ≡ x.weight)

-- no line in both, or the same name and weights
abbrev pub SameOrder : Option RawOrder → Option RawOrder → Type 0
SameOrder None None = Unit {0}
SameOrder None (Some p) = ⊥
SameOrder (Some o) None = ⊥
SameOrder (Some o) (Some p) = SameName o.name p.name × AllZip SameWeight o.weights p.weights

-- the same sides
abbrev pub SameEquation : RawEq → RawEq → Type 0
SameEquation e f = SameTerm e.left f.left × SameTerm e.right f.right

-- the same test, wanted alike
abbrev pub SameGuard : RawGuard → RawGuard → Type 0
SameGuard g h = SameTerm g.test h.test × (g.wanted ≡ h.wanted)

-- the same sides and guards
abbrev pub SameRule : RawRule → RawRule → Type 0
SameRule r s =
    SameTerm r.left s.left × SameTerm r.right s.right × AllZip SameGuard r.guards s.guards

-- the same variable and sort
abbrev pub SameBind : RawBind → RawBind → Type 0
SameBind b c = SameName b.name c.name × SameName b.sort c.sort

-- Goals that are the same apart from places.
pub record SameGoal (g h : RawGoal) : Type 0 where
  pub head : SameName g.head h.head
  pub binds : AllZip SameBind g.binds h.binds
  pub premises : AllZip SameEquation g.premises h.premises
  pub conclusions : AllZip SameEquation g.conclusions h.conclusions

-- The format is the same, and so are the declarations in their order, apart from places.
pub record IsSameButPlaces (raw other : RawSpec) : Type 0 where
  pub version : raw.version ≡ other.version
  pub sorts : AllZip SameSort raw.sorts other.sorts
  pub funs : AllZip SameFun raw.funs other.funs
  pub equals : AllZip SameEqual raw.equals other.equals
  pub statuses : AllZip SameStatus raw.statuses other.statuses
  pub order : SameOrder raw.order other.order
  pub rules : AllZip SameRule raw.rules other.rules
  pub goals : AllZip SameGoal raw.goals other.goals
