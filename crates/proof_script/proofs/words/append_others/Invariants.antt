use Rattle.std.proofs.Common.{◌≡◌, ◌++◌, drop, codes, map, flat_map}
use Rattle.std.specs.List.{AllByRecursion}
use Rattle.spec_core.specs.TermText.{SymbolsAreInRange}
use Rattle.proof_script.specs.Written.{text_by}
use Rattle.proof_script.proofs.words.append_others.Given as goal

-- with the terms that are left all have been appended
abbrev pub invariant-loop-term : goal.invariant-loop-term
invariant-loop-term l =
    record {
      text : l.text.items ++ flat_map (λ u. codes ", " ++ u)
          (map (text_by l.sig l.variables) (drop l.term-index l.terms)) ≡ l.fn.text.items
          ++ flat_map (λ u. codes ", " ++ u) (map (text_by l.sig l.variables) l.terms);
      rest : AllByRecursion (SymbolsAreInRange l.sig) (drop l.term-index l.terms);
    }
