-- What stays the same for all nodes of a block.
use Rattle.std.specs.Prelude.{All, Contains}
use Rattle.node_names.specs.declared.settings.Setting.{Setting}
use Rattle.node_names.specs.Names.{stems_of}

-- the names that others are made from are those of the specification and the goal
abbrev pub HasStems : Setting → Type 0
HasStems setting = All (Contains (stems_of setting.spec.now setting.goal.now)) setting.stems.items
