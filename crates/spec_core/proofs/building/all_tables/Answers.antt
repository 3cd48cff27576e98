use Rattle.std.proofs.Common.{◌≡◌, ◌∙◌, ◌++◌, ◌∷◌, ◌+◌, [], ap, sym, subst, arith, length, length-append}
use Rattle.std.specs.Prelude.{codes}
use Rattle.spec_core.specs.Sig.{Sig}
use Rattle.spec_core.specs.Pairs.{pairs_of}
use Rattle.spec_core.specs.Declarations.{AreFresh, AreNewNames, all_symbols, declared_by}
use Rattle.spec_core.proofs.Fresh.{some_of, none_of, pairs_long, made_is}
use Rattle.spec_core.proofs.building.all_tables.Goals as goal
use Rattle.spec_core.proofs.building.all_tables.Goals.{In-Some-2}

names_are : (c : In-Some-2) → (c.in-Some.names ≡ codes "Bool" ∷ c.args.sorts)
    × AreNewNames [] (codes "Bool" ∷ c.args.sorts)
names_are c = subst (λ xs. (c.in-Some.names ≡ codes "Bool" ∷ xs) × AreNewNames [] (codes "Bool" ∷ xs))
    c.into_vec.ensures (some_of c.in_ok-names.field-0 c.in-Some.names _ _ c.in-Some.is c.in_ok-names.ensures)

table_is : (c : In-Some-2) →
    (pairs_of c.in-Some-2.symbols.entries ≡ all_symbols c.args.constructors c.args.functions)
    × AreFresh [] (all_symbols c.args.constructors c.args.functions)
table_is c =
    let t = c.in-Some-2.symbols in
    let h = some_of c.in_ok-symbols.field-0 t _ _ c.in-Some-2.is c.in_ok-symbols.ensures in
    let g = subst (λ cs. (pairs_of t.entries ≡ all_symbols cs c.into_vec-3.result.items)
    × AreFresh [] (all_symbols cs c.into_vec-3.result.items)) c.into_vec-2.ensures h in
    subst (λ fs. (pairs_of t.entries ≡ all_symbols c.args.constructors fs)
    × AreFresh [] (all_symbols c.args.constructors fs)) c.into_vec-3.ensures g

table_long : (c : In-Some-2) →
    length c.in-Some-2.symbols.entries ≡ 2 + (length c.args.constructors + length c.args.functions)
table_long c =
    let a : length (pairs_of c.in-Some-2.symbols.entries) ≡ 2 + length (c.args.constructors
    ++ c.args.functions) = ap (λ xs. length xs) (table_is c).0 ∙ omega arith in
    let b : length (pairs_of c.in-Some-2.symbols.entries) ≡ length c.in-Some-2.symbols.entries = pairs_long
    c.in-Some-2.symbols.entries in
    omega (arith, length-append c.args.constructors c.args.functions)

signature_is : (c : In-Some-2) →
    ◌≡◌ {A = Sig} (record {
      sorts = c.in-Some.names;
      table = pairs_of c.in-Some-2.symbols.entries;
      constructors = 2 + c.len.result;
    }) (declared_by c.args.sorts c.args.constructors c.args.functions)
signature_is c = made_is _ _ _ _ _ _ (names_are c).0 (table_is c).0 (ap (λ n. 2 + n) c.len.ensures)

pub invariant_of-result : goal.invariant_of-result
invariant_of-result c =
    let t = table_long c in
    let n : length c.in-Some.names ≡ length (codes "Bool" ∷ c.args.sorts) = ap (λ xs. length xs) (names_are c).0 in
    (omega arith, omega arith, omega (arith, c.len.ensures))

pub returns : goal.returns
returns c = (signature_is c, ((names_are c).1, (table_is c).1))

pub returns-in_default-2 : goal.returns-in_default-2
returns-in_default-2 c h =
    let n = none_of c.in_ok-symbols.field-0 _ _ c.in_default-2.is c.in_ok-symbols.ensures in
    let g : AreFresh [] (all_symbols c.into_vec-2.result.items c.args.functions) = subst
    (λ cs. AreFresh [] (all_symbols cs c.args.functions)) (sym c.into_vec-2.ensures) h.1 in
    n (subst (λ fs. AreFresh [] (all_symbols c.into_vec-2.result.items fs)) (sym c.into_vec-3.ensures) g)
