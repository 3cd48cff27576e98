use Rattle.std.proofs.Common.{◌∙◌, rules, map, subst, sym}
use Rattle.std.specs.Prelude.{string_bytes}
use Rattle.clap.specs.Words.{App}
use Rattle.command_line.specs.FlatApps.{IsFlat}
use Rattle.command_line.proofs.Entries.{is_flat, nothing_asked}
use Rattle.command_line.proofs.commands.request_of.Goals as goal

pub matches_of-requires : goal.matches_of-requires
matches_of-requires c =
    subst (λ (a : App). IsFlat a)
    (sym (c.in_ok-app.ensures ∙ c.in-Some-command_named.ensures.taking))
    (is_flat c.in-Some-command_named.command)

pub returns-in_default-2 : goal.returns-in_default-2
returns-in_default-2 c =
    nothing_asked c.in-Some-command_named.command (map string_bytes c.args.words.now) (search rules)
    (search rules)
