use Rattle.std.proofs.Common.{rules, ◌≡◌, ◌∙◌, ap, sym, subst, position, option_map}
use Rattle.std.specs.Str.{bytes_eq}
use Rattle.term_core.specs.declared.ids.SortId.{SortId}
use Rattle.term_core.specs.declared.ids.SymId.{SymId}
use Rattle.spec_core.specs.Findings.{First}
use Rattle.spec_core.specs.Sig.{names_of}
use Rattle.sort_check.specs.Answers.{Tells}
use Rattle.sort_check.specs.GoalTests.{bind_tests}
use Rattle.sort_check.specs.declared.faults.SortFault.TheVariants.{Sort}
use Rattle.sort_check.specs.declared.faults.SortKind.TheVariants.{RepeatedName}
use Rattle.sort_check.proofs.Listed.{some_is, none_is, absent_is, present_is, bound_at, symbol_repeated, bind_repeated}
use Rattle.sort_check.proofs.Listed.{sort_unknown, bind_clean}
use Rattle.sort_check.proofs.goals.check_bind.Goals as goal
use Rattle.sort_check.proofs.goals.check_bind.Goals.{then-is_some-via-then-is_some}
use Rattle.sort_check.proofs.goals.check_bind.Goals.{then-is_some-via-else-is_some+then-is_some-2}

pub returns-then-is_some : goal.returns-then-is_some
returns-then-is_some c =
    let sig = c.args.sig.now in
    let raw = c.args.raw.now in
    let before = c.args.before.now in
    let named : position (bytes_eq raw.name.name) (names_of sig) ≡ option_map (λ (f : SymId). f.0)
    c.symbol.result = search rules in
    let h : First (bind_tests sig before raw) (Sort raw.name.at RepeatedName) = elim c.then-is_some.branch [
      | then-is_some-via-then-is_some w ↦
          let s = some_is c.symbol.result (search rules) in
          symbol_repeated sig before raw s.0.0 (named ∙ ap (λ o. option_map (λ (f : SymId). f.0) o) s.1)
      | then-is_some-via-else-is_some+then-is_some-2 w ↦
          let s = some_is w.bind_named.result (search rules) in
          let found : bound_at sig before raw ≡ w.bind_named.result = search rules in
          bind_repeated sig before raw s.0 (found ∙ s.1)
    ] in
    subst (λ e. Tells (bind_tests sig before raw) e) (sym c.fault.ensures) h

pub returns-then-is_none : goal.returns-then-is_none
returns-then-is_none c =
    let sig = c.args.sig.now in
    let raw = c.args.raw.now in
    let before = c.args.before.now in
    let named : position (bytes_eq raw.name.name) (names_of sig) ≡ option_map (λ (f : SymId). f.0)
    c.symbol.result = search rules in
    let other = named ∙ ap (λ o. option_map (λ (f : SymId). f.0) o) (none_is c.symbol.result (search rules)) in
    let found : bound_at sig before raw ≡ c.bind_named.result = search rules in
    let sort : position (bytes_eq raw.sort.name) sig.sorts ≡ option_map (λ (s : SortId). s.0)
    c.sort.result = search rules in
    let h = sort_unknown sig before raw other (found ∙ none_is c.bind_named.result (search rules))
    (sort ∙ ap (λ o. option_map (λ (s : SortId). s.0) o) (absent_is c.sort.result (search rules))) in
    subst (λ e. Tells (bind_tests sig before raw) e) (sym c.fault-then-is_none.ensures) h

pub returns : goal.returns
returns c =
    let sig = c.args.sig.now in
    let raw = c.args.raw.now in
    let before = c.args.before.now in
    let named : position (bytes_eq raw.name.name) (names_of sig) ≡ option_map (λ (f : SymId). f.0)
    c.symbol.result = search rules in
    let other = named ∙ ap (λ o. option_map (λ (f : SymId). f.0) o) (none_is c.symbol.result (search rules)) in
    let found : bound_at sig before raw ≡ c.bind_named.result = search rules in
    let sort : position (bytes_eq raw.sort.name) sig.sorts ≡ option_map (λ (s : SortId). s.0)
    c.sort.result = search rules in
    let s = present_is c.sort.result (search rules) in (
      bind_clean sig before raw other (found ∙ none_is c.bind_named.result (search rules)) s.0.0
          (sort ∙ ap (λ o. option_map (λ (s : SortId). s.0) o) s.1),
      tt,
    )
