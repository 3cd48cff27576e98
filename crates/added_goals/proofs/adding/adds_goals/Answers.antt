use Rattle.std.proofs.Common.{◌∷◌, List, ap, sym, ◌∙◌}
use Rattle.std.specs.Prelude.{codes}
use Rattle.spec_core.specs.Sig.{Sig}
use Rattle.spec_grammar.specs.declared.raw.RawSort.{RawSort}
use Rattle.sort_check.specs.Signatures.{sort_names}
use Rattle.added_goals.proofs.adding.adds_goals.Goals as goal

pub same_signature-requires : goal.same_signature-requires
same_signature-requires c =
    ap (λ (s : Sig). s.sorts) c.requires.numbered.signature.is
    ∙ ap (λ (raws : List RawSort). codes "Bool" ∷ sort_names raws) (sym c.as_slice.ensures)
