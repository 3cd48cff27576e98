use Rattle.std.proofs.Common.{◌≡◌, ◌-◌, ◌∷◌, [], ◌++◌, length, sym, ◌∙◌, ap, arith, take}
use Rattle.std.proofs.lemmas.List.{length-map}
use Rattle.inference_rules.specs.declared.nodes.Node.{Node}
use Rattle.session_core.specs.Kept.{Kept}
use Rattle.session_core.specs.declared.kept_goals.KeptGoal.{KeptGoal}
use Rattle.session_core.specs.Value.{kept_of, without_last}
use Rattle.session_core.proofs.LastEntries.{init, last_of, set_last, shorter}
use Rattle.session_core.proofs.kept_goals.take_step_back.Goals as goal

pub returns : goal.returns
returns c l =
    let g = c.index_mut-goal.result.now in
    let k = c.len-last.result - 1 in
    let n : k ≡ length c.args.goals.now.items - 1 = omega (arith, c.len-last.ensures) in
    let is : kept_of g ≡ l.last = last_of c.args.goals.now.items l.front l.last g k l.is n
    c.index_mut-goal.ensures.value in
    let links : g.taken.links.items ≡ l.links ++ l.link ∷ [] = ap (λ (x : Kept). x.links) is ∙ l.links_are in
    let lengths : g.lengths.items ≡ l.lengths ++ l.total ∷ [] = ap (λ (x : Kept). x.lengths) is ∙ l.lengths_are in
    let t = c.take_back.ensures.last l.links l.link links in
    let nodes = ap (λ (x : Kept). x.nodes) is ∙ l.nodes_are in
    let number : g.number ≡ l.last.number = ap (λ (x : Kept). x.number) is in
    let many : length g.taken.nodes.items ≡ length (kept_of g).nodes =
    sym (length-map g.taken.nodes.items (λ (node : Node). node.clause)) in
    let left = t.1 ∙ ap (λ m. take (m - length l.link.clauses) (kept_of g).nodes) many ∙
    shorter (kept_of g).nodes l.nodes l.others (length l.link.clauses) nodes l.counted in
    let short : c.pop.new.self.items ≡ l.lengths = c.pop.ensures.rest ∙
    ap (λ n. take (n - 1) g.lengths.items) g.lengths.ok.0 ∙ init g.lengths.items l.lengths l.total lengths in
    let goal_after : KeptGoal = record {
      number = g.number;
      taken = c.take_back.new.self;
      lengths =
          c.pop.new.self;
    } in
    let entry : kept_of goal_after ≡ without_last l = (λ i. record {
      number = number i;
      nodes = left i;
      links = t.0 i;
      lengths = short i;
    }) in
    let set = set_last c.args.goals.now.items l.front l.last goal_after k l.is n in
    let a : length c.take_back.new.self.nodes.items ≡ length l.nodes =
    sym (length-map c.take_back.new.self.nodes.items _) ∙ ap (λ xs. length xs) left in
    let b : length c.take_back.new.self.links.items ≡ length l.links = ap (λ xs. length xs) t.0 in
    (set ∙ ap (λ x. l.front ++ x ∷ []) entry, omega (arith, c.len.ensures, c.len-2.ensures, a, b))
