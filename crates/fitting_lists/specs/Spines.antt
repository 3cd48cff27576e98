-- Spines of terms: the symbol at the root, how often it occurs from there on along last arguments,
-- and what ends this. If a pattern becomes a term, their spines fit.
use Rattle.std.specs.Prelude.{◌≡◌, ℕ, suc, ◌-◌, ◌^◌, ◌≤◌, ◌==◌, ◌⊎◌, Option, Some, None, min, if◌then◌else◌}
use Rattle.term_core.specs.Tree.{Tree, Trees, var, app, none, some}
use Rattle.term_core.specs.declared.ids.SymId.{SymId}
use Rattle.fitting_lists.specs.declared.spines.Spine.{Spine}
use Rattle.fitting_lists.specs.declared.spines.SpineEnd.{SpineEnd}
use Rattle.fitting_lists.specs.declared.spines.SpineEnd.TheVariants.{Variable, NoArguments, Symbol}

-- the symbol with this number
abbrev pub numbered : ℕ → SymId
numbered f = record { 0 = f }

-- how often a symbol occurs, and what ends this
abbrev pub Run : Type 0
Run = ℕ × SpineEnd

abbrev pub one_more : Run → Run
one_more r = (suc r.0, r.1)

abbrev mutual
  -- how often the symbol occurs along last arguments, from the root of the term on
  pub run : ℕ → Tree → Run
  run f (var n) = (0, Variable)
  run f (app g ts) = if g == f then one_more (last_run f ts) else (0, Symbol (numbered g))

  -- the same, from the root of the last of the terms on
  pub last_run : ℕ → Trees → Run
  last_run f none = (0, NoArguments)
  last_run f (some t none) = run f t
  last_run f (some t (some u us)) = last_run f (some u us)

-- the spine of a term with this symbol at the root
abbrev pub spine_from : ℕ → Run → Spine
spine_from f r = record {
  root = Some (numbered f);
  length = min r.0 (2 ^ 32 - 1);
  end = r.1;
}

-- the spine of a term: a variable has no symbol at the root
abbrev pub spine_of : Tree → Spine
spine_of (var n) = record { root = None; length = 0; end = Variable }
spine_of (app f ts) = spine_from f (one_more (last_run f ts))

-- the symbols of the first spine occur in the second one too: a variable may go on from there, and
-- else all is the same
abbrev pub EndsWithin : Spine → Spine → Type 0
EndsWithin p t =
    ((p.end ≡ Variable) × (p.length ≤ t.length)) ⊎ ((p.length ≡ t.length) × (p.end ≡ t.end))

-- a pattern with the first spine may become a term with the second one
abbrev pub MayBecome : Spine → Spine → Type 0
MayBecome p t = (p.length ≡ 0) ⊎ ((p.root ≡ t.root) × EndsWithin p t)

-- how often the symbol at the root of a spine occurs along the term
abbrev pub stands : Option SymId → Tree → ℕ
stands None t = 0
stands (Some f) t = (run f.0 t).0

-- how often it would have to occur more for a pattern with this spine to become the term
abbrev pub missing_in : Spine → Tree → ℕ
missing_in p t = p.length - stands p.root t
