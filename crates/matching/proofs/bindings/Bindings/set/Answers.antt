-- The entry is written where the variable's place is, once there is one.
use Rattle.std.proofs.Common.{rules, ◌≡◌, ◌+◌, ◌<◌, ℕ, ap, ◌∙◌, length}
use Rattle.substitutions.specs.Substitution.{entry}
use Rattle.matching.specs.Bindings.{entries_of}
use Rattle.matching.proofs.BoundEntries.{grown, set_entry}
use Rattle.matching.proofs.bindings.Bindings.set.Goals.{then-len-place+in_ok-resize, else-len-place}
use Rattle.matching.proofs.bindings.Bindings.set.Goals as goal

pub returns : goal.returns
returns c =
    let items = c.if-len-place.self-inside.items.items in
    let room : c.args.var.0 < length items = elim c.if-len-place.branch [
      | then-len-place+in_ok-resize w ↦ search rules
      | else-len-place w ↦ search rules
    ] in
    let before = c.self.inside.items.items in
    let same : (m : ℕ) → entry (entries_of items) m ≡ entry c.args.self.now m = λ m.
    elim c.if-len-place.branch [
      | then-len-place+in_ok-resize w ↦
          ap (λ v. entry (entries_of v.items.items) m) w.self-inside-is
          ∙ grown before w.resize.new.self.items (c.args.var.0 + 1) _ (search rules)
          w.in_ok-resize.ensures.items m
          ∙ ap (λ es. entry es m) c.self.view_is
      | else-len-place w ↦
          ap (λ v. entry (entries_of v.items.items) m) w.self-inside-is
          ∙ ap (λ es. entry es m) c.self.view_is
    ] in
    set_entry items c.args.self.now c.args.var.0 c.args.term same room
