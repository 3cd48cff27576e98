-- Raw specifications of format 1.
use Rattle.std.specs.Prelude.{List, [], None}
use Rattle.spec_grammar.specs.declared.raw.RawSort.{RawSort}
use Rattle.spec_grammar.specs.declared.raw.RawFun.{RawFun}
use Rattle.spec_grammar.specs.declared.raw.RawRule.{RawRule}
use Rattle.spec_grammar.specs.declared.raw.RawGoal.{RawGoal}
use Rattle.spec_grammar.specs.declared.raw.RawSpec.{RawSpec}

-- the one with these declarations
abbrev pub format_one : List RawSort → List RawFun → List RawRule → List RawGoal → RawSpec
format_one sorts funs rules goals =
    record {
      version = 1;
      sorts = sorts;
      funs = funs;
      equals = [];
      statuses = [];
      order = None;
      rules = rules;
      goals = goals;
    }
