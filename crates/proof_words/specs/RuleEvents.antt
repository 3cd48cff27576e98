-- Rules as texts of a page.
use Rattle.std.specs.Prelude.{ℕ, Bool, true, false, List, ◌∷◌, ◌++◌, None, codes, flat_map}
use Rattle.spec_core.specs.declared.records.Guard.{Guard}
use Rattle.spec_core.specs.declared.records.Rule.{Rule}
use Rattle.spec_core.specs.Sig.{Sig}
use Rattle.spec_core.specs.TermText.{variable_names}
use Rattle.page_core.specs.Events.{Event}
use Rattle.proof_words.specs.ListEvents.{plain}
use Rattle.proof_words.specs.TermEvents.{side_events}

-- what comes before a test that is wanted true, and one that is wanted false
abbrev pub condition : Bool → List ℕ
condition true = codes " if "
condition false = codes " unless "

abbrev pub guard_events : Sig → List (List ℕ) → Guard → List Event
guard_events sig names g = plain (condition g.wanted) ∷ side_events sig names None g.test

-- `l = r` and the guards, with these names
abbrev pub named_rule_events : Sig → List (List ℕ) → Rule → List Event
named_rule_events sig names r =
    side_events sig names None r.left
    ++ plain (codes " = ")
    ∷ (side_events sig names None r.right ++ flat_map (guard_events sig names) r.guards)

-- the rule with its own names
abbrev pub rule_events : Sig → Rule → List Event
rule_events sig r = named_rule_events sig (variable_names r.vars) r
