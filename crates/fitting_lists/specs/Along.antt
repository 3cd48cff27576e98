-- A walk along the last arguments of a pattern and of a term.
use Rattle.std.specs.Prelude.{◌≡◌, ◌<◌, ℕ, List}
use Rattle.term_core.specs.Tree.{Tree, instance}
use Rattle.term_core.specs.Measure.{weight}
use Rattle.fitting_lists.specs.declared.along.Below.{Below}
use Rattle.fitting_lists.specs.declared.along.Below.TheVariants.{Differing, End, Last}

-- by the list the last argument of the pattern becomes that of the term, and no symbols differ
abbrev pub StillBecomes : List Tree → Below → Type 0
StillBecomes list Differing = ⊥
StillBecomes list End = Unit {0}
StillBecomes list (Last p t) = instance list p.now ≡ t.now

-- the last argument of the pattern weighs less than this
abbrev pub IsLighter : ℕ → Below → Type 0
IsLighter n Differing = Unit {0}
IsLighter n End = Unit {0}
IsLighter n (Last p t) = weight p.now < n
