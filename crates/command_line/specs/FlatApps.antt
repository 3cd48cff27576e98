-- Commands without subcommands, whose arguments have names of their own and no rule on one another.
use Rattle.std.specs.Prelude.{◌≡◌, ◌&&◌, Bool, List, [], ◌∷◌, true, false, not, codes}
use Rattle.std.specs.Str.{bytes_eq}
use Rattle.clap.specs.Words.{App, Rule, Text, is_simple_and_free}
use Rattle.clap.specs.Simple.{is_ready}
use Rattle.clap.specs.Faults.{has_free_rules}

-- the name is not the argument's
abbrev pub is_other : Text → Rule → Bool
is_other name rule = not (bytes_eq rule.id name) && not (bytes_eq name rule.id)

abbrev pub is_in_none : Text → List Rule → Bool
is_in_none name [] = true
is_in_none name (rule ∷ rules) = is_other name rule && is_in_none name rules

-- the name is none of those that `clap` gives to arguments of its own
abbrev pub is_own : Text → Bool
is_own name = not (bytes_eq name [])
    && (not (bytes_eq name (codes "help")) && not (bytes_eq name (codes "version")))

abbrev pub have_own_names : List Rule → Bool
have_own_names [] = true
have_own_names (rule ∷ rules) = is_own rule.id && (is_in_none rule.id rules && have_own_names rules)

pub record IsFlat (app : App) : Type 0 where
  pub simple : is_simple_and_free app ≡ true
  pub ready : is_ready app.top ≡ true
  pub free : has_free_rules app.top ≡ true
  pub leaf : app.subs ≡ []
  pub negates : app.top.subcommand_negates_reqs ≡ false
  pub names : have_own_names app.top.rules ≡ true
