-- What an operand means whose term is an application.
use Rattle.std.proofs.Common.{◌≡◌, ◌∙◌, ℕ, List, [], ◌∷◌, Bool, true, false, map, ap, sym, refl}
use Rattle.term_core.specs.Tree.{Tree, app, some, trees_of, instance, instances}
use Rattle.term_core.specs.View.{tree_of}
use Rattle.term_core.specs.declared.ids.SymId.{SymId}
use Rattle.term_core.specs.declared.tree.TermNode.{TermNode}
use Rattle.term_core.specs.declared.tree.TermNode.TheVariants.{App}
use Rattle.term_order.specs.Operands.{read, meaning}
use Rattle.term_order.specs.declared.operands.Operand.{Operand}

maps_nothing : (ts : List Tree) → map (λ t. t) ts ≡ ts
maps_nothing [] = refl
maps_nothing (t ∷ ts) = ap (λ us. t ∷ us) (maps_nothing ts)

instances_of : (values ts : List Tree) → instances values (trees_of ts) ≡ trees_of (map (instance values) ts)
instances_of values [] = refl
instances_of values (t ∷ ts) = ap (λ us. some (instance values t) us) (instances_of values ts)

read_app :
    (values : List Tree) (is_pattern : Bool) (f : ℕ) (ts : List Tree) →
    read values is_pattern (app f (trees_of ts)) ≡ app f (trees_of (map (read values is_pattern) ts))
read_app values true f ts = ap (λ us. app f us) (instances_of values ts)
read_app values false f ts = ap (λ us. app f (trees_of us)) (sym (maps_nothing ts))

-- its arguments are read as it is
pub operand_app :
    (values : List Tree) (o : Operand) {node : TermNode} (f : SymId) {args ts : List Tree} →
    ts ≡ args → node ≡ App f args → tree_of node ≡ o.term.now →
    meaning values o ≡ app f.0 (trees_of (map (read values o.is_pattern) ts))
operand_app values o f {args} {ts} same is view =
    let e : app f.0 (trees_of ts) ≡ o.term.now =
    ap (λ us. app f.0 (trees_of us)) same ∙ ap tree_of (sym is) ∙ view
    in
    ap (read values o.is_pattern) (sym e) ∙ read_app values o.is_pattern f.0 ts
