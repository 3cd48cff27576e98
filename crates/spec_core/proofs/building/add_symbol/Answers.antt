use Rattle.std.proofs.Common.{◌≡◌, ◌++◌, ◌∷◌, [], ℕ, true, false, ap, sym, ◌∙◌, subst}
use Rattle.std.specs.Option.{is_some}
use Rattle.std.specs.Map.{lookup}
use Rattle.std.specs.Str.{bytes_eq}
use Rattle.std.specs.Global.{Vec}
use Rattle.spec_core.specs.Pairs.{pairs_of}
use Rattle.spec_core.specs.Declarations.{IsNew}
use Rattle.spec_core.proofs.Table.{new_absent, absent_new, goes_last, pairs_last}
use Rattle.spec_core.proofs.building.add_symbol.Goals as goal
use Rattle.spec_core.proofs.building.add_symbol.Goals.{After-contains_key}

asked : (c : After-contains_key) →
    c.contains_key.result ≡ is_some (lookup (λ (k : Vec ℕ). bytes_eq c.args.name k.items) c.args.table.now.entries)
asked c = c.contains_key.ensures
    ∙ ap (λ n. is_some (lookup (λ (k : Vec ℕ). bytes_eq n k.items) c.args.table.now.entries))
    (c.as_slice.ensures.value ∙ c.into_bytes-name.ensures)

pub returns-then-contains_key-clause-repeated : goal.returns-then-contains_key-clause-repeated
returns-then-contains_key-clause-repeated c _ n =
    let a = asked (goal.at.returns-then-contains_key-clause-repeated c).After-contains_key in
    let e : true ≡ false = sym c.if-contains_key.true ∙ a
    ∙ ap (λ o. is_some o) (new_absent c.args.name c.args.table.now.entries n) in
    cc

pub returns-in-Ok-clause-fresh : goal.returns-in-Ok-clause-fresh
returns-in-Ok-clause-fresh c _ =
    let a = asked (goal.at.returns-in-Ok-clause-fresh c).After-contains_key in
    let n = absent_new c.args.name c.args.table.now.entries (sym a ∙ c.if-contains_key.false) in
    let key = c.into_bytes-name.result in
    let k : IsNew key.items (pairs_of c.args.table.now.entries) = subst
    (λ x. IsNew x (pairs_of c.args.table.now.entries)) (sym c.into_bytes-name.ensures) n in
    let p = pairs_last key c.args.info c.args.table.now.entries c.insert.new.self.entries
    (c.in-Ok.ensures.entries ∙ goes_last key c.args.info c.args.table.now.entries k) in
    (p ∙ ap (λ x. pairs_of c.args.table.now.entries ++ (x, c.args.info) ∷ []) c.into_bytes-name.ensures, n)
