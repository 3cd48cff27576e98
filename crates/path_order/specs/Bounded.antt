-- The path ordering within a bound. If the heads decide, the tests that the term is above the
-- arguments on the other side have the bound one less; all other tests keep it.
use Rattle.std.specs.Prelude.{◌≡◌, ℕ, suc, ◌<◌, length}
use Rattle.term_core.specs.Tree.{Tree, Trees, app, none, some, list_of}
use Rattle.term_core.specs.Precedence.{Precedence, level}
use Rattle.path_order.specs.Arranged.{arranged}

mutual
  -- `AboveWithin o k t s`: t is above s within the bound k
  pub data AboveWithin (o : Precedence) : ℕ → Tree → Tree → Type 0 where
    -- some argument is s, or is above s
    within_argument :
        {k f : ℕ} {ts : Trees} {s : Tree} → SomeReachesWithin o k ts s →
        AboveWithin o k (app f ts) s
    -- the bound isn't 0, the level of s's head is smaller, and the term is above each argument of s
    -- within one less
    within_head :
        {k f g : ℕ} {ts ss : Trees} → level o g < level o f → AboveAllWithin o k (app f ts) ss →
        AboveWithin o (suc k) (app f ts) (app g ss)
    -- the bound isn't 0, the levels are the same, and the arguments fall, each head's in the order
    -- of its status
    within_arguments :
        {k f g : ℕ} {ts ss : Trees} → level o g ≡ level o f →
        FallsWithin o (suc k) (app f ts) (arranged o f ts) (arranged o g ss) →
        AboveWithin o (suc k) (app f ts) (app g ss)

  -- some of the terms is s, or is above s
  pub data SomeReachesWithin (o : Precedence) : ℕ → Trees → Tree → Type 0 where
    within_this_is : {k : ℕ} {s : Tree} {ts : Trees} → SomeReachesWithin o k (some s ts) s
    within_this_above :
        {k : ℕ} {t s : Tree} {ts : Trees} → AboveWithin o k t s →
        SomeReachesWithin o k (some t ts) s
    within_later :
        {k : ℕ} {t s : Tree} {ts : Trees} → SomeReachesWithin o k ts s →
        SomeReachesWithin o k (some t ts) s

  -- the term is above each of the terms
  pub data AboveAllWithin (o : Precedence) : ℕ → Tree → Trees → Type 0 where
    within_none : {k : ℕ} {t : Tree} → AboveAllWithin o k t none
    within_some :
        {k : ℕ} {t s : Tree} {ss : Trees} → AboveWithin o k t s → AboveAllWithin o k t ss →
        AboveAllWithin o k t (some s ss)

  -- of two lists of one length: the first argument that differs is above its counterpart, and the
  -- term is above each one after that, within one less
  pub data FallsWithin (o : Precedence) : ℕ → Tree → Trees → Trees → Type 0 where
    within_here :
        {k : ℕ} {t a b : Tree} {ts ss : Trees} → length (list_of ts) ≡ length (list_of ss) →
        AboveWithin o (suc k) a b → AboveAllWithin o k t ss →
        FallsWithin o (suc k) t (some a ts) (some b ss)
    within_further :
        {k : ℕ} {t a : Tree} {ts ss : Trees} → FallsWithin o k t ts ss →
        FallsWithin o k t (some a ts) (some a ss)
