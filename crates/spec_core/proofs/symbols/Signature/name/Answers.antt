use Rattle.std.proofs.Common.{Some, ℕ, ap, sym, ◌∙◌, Vec, Global}
use Rattle.std.specs.Prelude.{slice_get}
use Rattle.spec_core.specs.Sig.{Sig, names_of}
use Rattle.spec_core.specs.declared.symbols.Signature.TheInside.{Inside}
use Rattle.spec_core.proofs.Names.{name_at}
use Rattle.spec_core.proofs.symbols.Signature.name.Goals as goal

pub returns : goal.returns
returns c =
    ap (λ (s : Sig). slice_get (names_of s) c.args.sym.0)
    (sym (ap (λ (a : Inside). a.tables) c.self-inside.view_is ∙ c.self.view_is))
    ∙ name_at (λ (k : Vec ℕ Global). k.items) c.self-inside.inside.0.0.symbols.entries c.args.sym.0
    c.in-Some.name.now c.in-Some.field-0-1.now (sym c.in-Some.ensures.entry)
    ∙ ap (λ x. Some x) (sym c.as_slice.ensures.value)
