-- The limits of the grammar. Each says which limit a token passes, if any.
use Rattle.std.specs.Prelude.{ℕ, List, Option, Some, None, nat_le, ◌==◌, length, take, codes, if◌then◌else◌}
use Rattle.std.specs.Str.{bytes_eq}
use Rattle.spec_grammar.specs.declared.limits.LimitKind.{LimitKind}
use Rattle.spec_grammar.specs.declared.limits.LimitKind.TheVariants as limit

-- the most constructors in all, functions and rules of a format, 1 or 2
abbrev pub most_constructors : ℕ → ℕ
most_constructors version = if version == 2 then 1000 else 500

abbrev pub most_functions : ℕ → ℕ
most_functions version = if version == 2 then 1000 else 500

abbrev pub most_rules : ℕ → ℕ
most_rules version = if version == 2 then 4000 else 1000

-- the most bytes of a file, by how it begins
abbrev pub file_limit : List ℕ → ℕ
file_limit bytes = if bytes_eq (take 7 bytes) (codes "spike 2") then 4194304 else 1048576

-- the item with this number, from 0, of at most this many
abbrev pub over : ℕ → ℕ → LimitKind → Option LimitKind
over n most why = if nat_le most n then Some why else None

-- of two limits the first is reported
abbrev pub or_else : Option LimitKind → Option LimitKind → Option LimitKind
or_else (Some why) other = Some why
or_else None other = other

-- a name, in a place that may pass a limit itself
abbrev pub name_mark : List ℕ → Option LimitKind → Option LimitKind
name_mark name mark = if nat_le (length name) 64 then mark else Some limit.Name

abbrev pub sort_mark : ℕ → Option LimitKind
sort_mark n = over n 200 limit.Sorts

-- k constructors of the sort come before this one, and n in all
abbrev pub constructor_mark : ℕ → ℕ → ℕ → Option LimitKind
constructor_mark version k n =
    or_else (over k 64 limit.Constructors) (over n (most_constructors version) limit.Constructors)

abbrev pub fun_mark : ℕ → ℕ → Option LimitKind
fun_mark version n = over n (most_functions version) limit.Functions

abbrev pub arity_mark : ℕ → Option LimitKind
arity_mark n = over n 8 limit.Arity

-- the n-th argument of a word, with d words above it
abbrev pub term_mark : ℕ → ℕ → Option LimitKind
term_mark d n = or_else (arity_mark n) (over d 64 limit.Nesting)

abbrev pub rule_mark : ℕ → ℕ → Option LimitKind
rule_mark version n = over n (most_rules version) limit.Rules

abbrev pub guard_mark : ℕ → Option LimitKind
guard_mark n = over n 8 limit.Guards

abbrev pub goal_mark : ℕ → Option LimitKind
goal_mark n = over n 200 limit.Goals

abbrev pub variable_mark : ℕ → Option LimitKind
variable_mark n = over n 16 limit.Variables

abbrev pub premise_mark : ℕ → Option LimitKind
premise_mark n = over n 8 limit.Premises

abbrev pub conclusion_mark : ℕ → Option LimitKind
conclusion_mark n = over n 4 limit.Conclusions

-- the word for a limit
abbrev pub limit_word : LimitKind → List ℕ
limit_word limit.Name = codes "name"
limit_word limit.Sorts = codes "sorts"
limit_word limit.Constructors = codes "constructors"
limit_word limit.Functions = codes "functions"
limit_word limit.Arity = codes "arity"
limit_word limit.Rules = codes "rules"
limit_word limit.Guards = codes "guards"
limit_word limit.Goals = codes "goals"
limit_word limit.Variables = codes "variables"
limit_word limit.Premises = codes "premises"
limit_word limit.Conclusions = codes "conclusions"
limit_word limit.Nesting = codes "nesting"
