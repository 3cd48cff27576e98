use Rattle.std.proofs.Common.{position, ℕ, ap, ◌∙◌, Vec, Global}
use Rattle.std.specs.Str.{bytes_eq}
use Rattle.spec_core.specs.Sig.{Sig, names_of}
use Rattle.spec_core.specs.declared.symbols.Signature.TheInside.{Inside}
use Rattle.spec_core.proofs.Names.{position-keys}
use Rattle.spec_core.proofs.symbols.Signature.symbol.Goals as goal

pub returns-in-Some : goal.returns-in-Some
returns-in-Some c =
    c.in-Some.ensures.index ∙ position-keys (bytes_eq c.args.name.now) (λ (k : Vec ℕ Global). k.items)
    c.self-inside.inside.0.0.symbols.entries
    ∙ ap (λ (s : Sig). position (bytes_eq c.args.name.now) (names_of s))
    (ap (λ (a : Inside). a.tables) c.self-inside.view_is ∙ c.self.view_is)

pub returns-in-None : goal.returns-in-None
returns-in-None c =
    c.in-None.ensures.index ∙ position-keys (bytes_eq c.args.name.now) (λ (k : Vec ℕ Global). k.items)
    c.self-inside.inside.0.0.symbols.entries
    ∙ ap (λ (s : Sig). position (bytes_eq c.args.name.now) (names_of s))
    (ap (λ (a : Inside). a.tables) c.self-inside.view_is ∙ c.self.view_is)
