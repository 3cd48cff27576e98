-- Terms that have no instance in common.
use Rattle.std.specs.Prelude.{◌≡◌, List}
use Rattle.term_core.specs.Tree.{Tree, Trees, instance, instances}

-- no instance of the one is one of the other, where each has its own variables
abbrev pub HaveNoCommonInstance : Tree → Tree → Type 0
HaveNoCommonInstance t u = (xs ys : List Tree) → instance xs t ≡ instance ys u → ⊥

-- and the same of lists of terms
abbrev pub HaveNoCommonInstances : Trees → Trees → Type 0
HaveNoCommonInstances ts us = (xs ys : List Tree) → instances xs ts ≡ instances ys us → ⊥
