use Rattle.std.proofs.Common.{List, ℕ, ap, ◌∙◌, map}
use Rattle.term_core.specs.Variables.{occurrences}
use Rattle.term_core.specs.Gathered.{gathered}
use Rattle.term_core.specs.declared.ids.VarId.{VarId}
use Rattle.term_core.proofs.Firsts.{gathered_firsts}
use Rattle.term_core.proofs.tree.Term.vars.Goals as goal

pub returns : goal.returns
returns c =
    let numbers : List VarId → List ℕ = λ vars. map (λ (v : VarId). v.0) vars in
    c.in_ok-gather.ensures
    ∙ ap (λ found. gathered (numbers found) (occurrences c.args.self.now)) c.new-found.ensures
    ∙ gathered_firsts (occurrences c.args.self.now)
