use Rattle.std.proofs.Common.{◌≡◌, ◌++◌, drop, codes, flat_map}
use Rattle.std.specs.Fmt.{decimal}
use Rattle.proof_script.proofs.words.append_path.Given as goal

-- with the numbers that are left the whole path has been appended
abbrev pub invariant-loop-number : goal.invariant-loop-number
invariant-loop-number l = l.text.items
    ++ flat_map (λ i. codes "." ++ decimal i) (drop l.number-index l.path) ≡ l.fn.text.items
    ++ flat_map (λ i. codes "." ++ decimal i) l.path
