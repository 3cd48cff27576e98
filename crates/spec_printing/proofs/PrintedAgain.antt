-- The printed form doesn't tell the places of names.
use Rattle.std.proofs.Common.{◌≡◌, ℕ, List, [], ◌∷◌, ◌++◌, Option, Some, None, refl, map}
use Rattle.std.specs.Prelude.{codes, if◌then◌else◌}
use Rattle.std.specs.Fmt.{decimal}
use Rattle.std.specs.List.{AllZip, flat_map}
use Rattle.spec_grammar.specs.RawTree.{RawTree, RawTrees, word, none, some}
use Rattle.spec_grammar.specs.declared.raw.RawName.{RawName}
use Rattle.spec_grammar.specs.declared.raw.RawNames.{RawNames}
use Rattle.spec_grammar.specs.declared.raw.RawSort.{RawSort}
use Rattle.spec_grammar.specs.declared.raw.RawFun.{RawFun}
use Rattle.spec_grammar.specs.declared.raw.RawEqual.{RawEqual}
use Rattle.spec_grammar.specs.declared.raw.RawStatus.{RawStatus}
use Rattle.spec_grammar.specs.declared.raw.RawWeight.{RawWeight}
use Rattle.spec_grammar.specs.declared.raw.RawOrder.{RawOrder}
use Rattle.spec_grammar.specs.declared.raw.RawEq.{RawEq}
use Rattle.spec_grammar.specs.declared.raw.RawGuard.{RawGuard}
use Rattle.spec_grammar.specs.declared.raw.RawRule.{RawRule}
use Rattle.spec_grammar.specs.declared.raw.RawBind.{RawBind}
use Rattle.spec_grammar.specs.declared.raw.RawGoal.{RawGoal}
use Rattle.spec_grammar.specs.declared.raw.RawSpec.{RawSpec}
use Rattle.spec_printing.specs.Printed.{listed, spaced, term_printed, others_printed, equation_printed, names_printed}
use Rattle.spec_printing.specs.Printed.{sort_line, fun_line, equal_line, status_line, weight_printed, weights_printed}
use Rattle.spec_printing.specs.Printed.{order_line, guard_printed, rule_line, bind_printed, arrow_printed, goal_line}
use Rattle.spec_printing.specs.Printed.{header_line, printed}
use Rattle.spec_printing.specs.SamePlaces.{SameName, SameNames, SameTerm, SameTerms, SameSort, SameFun, SameEqual}
use Rattle.spec_printing.specs.SamePlaces.{SameStatus, SameWeight, SameOrder, SameEquation, SameGuard, SameRule}
use Rattle.spec_printing.specs.SamePlaces.{SameBind, SameGoal, IsSameButPlaces}

-- lists whose elements have the same texts
module _ {X : Type 0} (text : X → List ℕ) (Same : X → X → Type 0) (one : (x y : X) → Same x y → text x ≡ text y) where
  texts : (xs ys : List X) → AllZip Same xs ys → map text xs ≡ map text ys
  texts [] [] all = refl
  texts (x ∷ xs) (y ∷ ys) all = let a = one x y all.0 in let b = texts xs ys all.1 in λ i. a i ∷ b i
  texts [] (y ∷ ys) all = absurd all
  texts (x ∷ xs) [] all = absurd all

  lines : (xs ys : List X) → AllZip Same xs ys → flat_map text xs ≡ flat_map text ys
  lines [] [] all = refl
  lines (x ∷ xs) (y ∷ ys) all = let a = one x y all.0 in let b = lines xs ys all.1 in λ i. a i ++ b i
  lines [] (y ∷ ys) all = absurd all
  lines (x ∷ xs) [] all = absurd all

mutual
  term : (t u : RawTree) → SameTerm t u → term_printed t ≡ term_printed u
  term (word b at none) (word c place none) s = s.0
  term (word b at none) (word c place (some u us)) s = absurd s.1
  term (word b at (some t ts)) (word c place none) s = absurd s.1
  term (word b at (some t ts)) (word c place (some u us)) s =
      let first = term t u s.1.0 in
      let rest = others ts us s.1.1 in
      λ i. s.0 i ++ codes "(" ++ first i ++ rest i ++ codes ")"

  others : (ts us : RawTrees) → SameTerms ts us → others_printed ts ≡ others_printed us
  others none none s = refl
  others none (some u us) s = absurd s
  others (some t ts) none s = absurd s
  others (some t ts) (some u us) s =
      let first = term t u s.0 in
      let rest = others ts us s.1 in
      λ i. codes ", " ++ first i ++ rest i

sides :
    (a b c d : RawTree) → SameTerm a c → SameTerm b d →
    term_printed a ++ codes " = " ++ term_printed b ≡ term_printed c ++ codes " = " ++ term_printed d
sides a b c d p q = let l = term a c p in let r = term b d q in λ i. l i ++ codes " = " ++ r i

equation : (e f : RawEq) → SameEquation e f → equation_printed e ≡ equation_printed f
equation e f s = sides e.left e.right f.left f.right s.0 s.1

names : (c d : RawNames) → SameNames c d → names_printed c ≡ names_printed d
names c d s =
    let args = texts (λ (n : RawName). n.name) SameName (λ n k e. e) c.args d.args s.1 in
    λ i. s.0 i ++ listed (args i)

sort : (s t : RawSort) → SameSort s t → sort_line s ≡ sort_line t
sort s t same =
    let all = texts names_printed SameNames names s.constructors t.constructors same.1 in
    λ i. codes "sort " ++ same.0 i ++ codes " =" ++ spaced (codes " | ") (all i) ++ codes "\n"

function : (f g : RawFun) → SameFun f g → fun_line f ≡ fun_line g
function f g s =
    let head = names f.head g.head s.0 in
    λ i. codes "fun " ++ head i ++ codes " : " ++ s.1 i ++ codes "\n"

equal : (e f : RawEqual) → SameEqual e f → equal_line e ≡ equal_line f
equal e f s =
    let all = texts (λ (n : RawName). n.name) SameName (λ n k q. q) e.names f.names s in
    λ i. codes "equal" ++ spaced (codes ", ") (all i) ++ codes "\n"

status : (s t : RawStatus) → SameStatus s t → status_line s ≡ status_line t
status s t same = λ i. codes "status " ++ same.0 i ++ listed (map decimal (same.1 i)) ++ codes "\n"

weight : (w x : RawWeight) → SameWeight w x → weight_printed w ≡ weight_printed x
weight w x s = λ i. s.0 i ++ codes " = " ++ decimal (s.1 i)

weights : (ws xs : List RawWeight) → AllZip SameWeight ws xs → weights_printed ws ≡ weights_printed xs
weights [] [] all = refl
weights (w ∷ ws) (x ∷ xs) all =
    let first = weight w x all.0 in
    let behind : (y z : RawWeight) → SameWeight y z → codes ", " ++ weight_printed y ≡ codes ", " ++ weight_printed z =
    λ y z s. let q = weight y z s in λ i. codes ", " ++ q i in
    let rest = lines (λ y. codes ", " ++ weight_printed y) SameWeight behind ws xs all.1 in
    λ i. codes " : " ++ first i ++ rest i
weights [] (x ∷ xs) all = absurd all
weights (w ∷ ws) [] all = absurd all

order : (o p : Option RawOrder) → SameOrder o p → order_line o ≡ order_line p
order None None s = refl
order None (Some p) s = absurd s
order (Some o) None s = absurd s
order (Some o) (Some p) s =
    let all = weights o.weights p.weights s.1 in
    λ i. codes "order " ++ s.0 i ++ all i ++ codes "\n"

guard : (g h : RawGuard) → SameGuard g h → guard_printed g ≡ guard_printed h
guard g h s = let tested = term g.test h.test s.0 in λ i. (if s.1 i then codes " if " else codes " unless ") ++ tested i

rule : (r s : RawRule) → SameRule r s → rule_line r ≡ rule_line s
rule r s same =
    let both = sides r.left r.right s.left s.right same.0 same.1 in
    let tests = lines guard_printed SameGuard guard r.guards s.guards same.2 in
    λ i. codes "rule " ++ both i ++ tests i ++ codes "\n"

bind : (b c : RawBind) → SameBind b c → bind_printed b ≡ bind_printed c
bind b c s = λ i. s.0 i ++ codes " : " ++ s.1 i

arrow :
    (ps qs cs ds : List RawEq) → AllZip SameEquation ps qs → AllZip SameEquation cs ds →
    arrow_printed ps cs ≡ arrow_printed qs ds
arrow [] [] [] [] p c = refl
arrow [] [] [] (d ∷ ds) p c = absurd c
arrow [] [] (x ∷ cs) [] p c = absurd c
arrow [] [] (x ∷ cs) (d ∷ ds) p c = refl
arrow [] (q ∷ qs) cs ds p c = absurd p
arrow (x ∷ ps) [] cs ds p c = absurd p
arrow (x ∷ ps) (q ∷ qs) cs ds p c = refl

goal_same : (g h : RawGoal) → SameGoal g h → goal_line g ≡ goal_line h
goal_same g h s =
    let binds = texts bind_printed SameBind bind g.binds h.binds s.binds in
    let premises = texts equation_printed SameEquation equation g.premises h.premises s.premises in
    let between = arrow g.premises h.premises g.conclusions h.conclusions s.premises s.conclusions in
    let conclusions = texts equation_printed SameEquation equation g.conclusions h.conclusions s.conclusions in
    λ i. codes "goal " ++ s.head i ++ listed (binds i) ++ codes " :"
    ++ (spaced (codes ", ") (premises i) ++ between i ++ spaced (codes " | ") (conclusions i)) ++ codes "\n"

pub printed_same : (raw other : RawSpec) → IsSameButPlaces raw other → printed raw ≡ printed other
printed_same raw other s =
    let sorts = lines sort_line SameSort sort raw.sorts other.sorts s.sorts in
    let funs = lines fun_line SameFun function raw.funs other.funs s.funs in
    let equals = lines equal_line SameEqual equal raw.equals other.equals s.equals in
    let statuses = lines status_line SameStatus status raw.statuses other.statuses s.statuses in
    let line = order raw.order other.order s.order in
    let rules = lines rule_line SameRule rule raw.rules other.rules s.rules in
    let goals = lines goal_line SameGoal goal_same raw.goals other.goals s.goals in
    λ i. header_line (s.version i) ++ sorts i ++ funs i ++ equals i ++ statuses i ++ line i ++ rules i ++ goals i
