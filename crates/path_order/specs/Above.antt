-- The lexicographic path ordering with levels and statuses (Kamin and Lévy 1980).
use Rattle.std.specs.Prelude.{◌≡◌, ℕ, ◌<◌, length}
use Rattle.term_core.specs.Tree.{Tree, Trees, app, none, some, list_of}
use Rattle.term_core.specs.Precedence.{Precedence, level}
use Rattle.path_order.specs.Arranged.{arranged}

mutual
  -- the first term is above the second
  pub data Above (o : Precedence) : Tree → Tree → Type 0 where
    -- some argument is s, or is above s
    by_argument : {f : ℕ} {ts : Trees} {s : Tree} → SomeReaches o ts s → Above o (app f ts) s
    -- the level of s's head is smaller, and the term is above each argument of s
    by_head :
        {f g : ℕ} {ts ss : Trees} → level o g < level o f → AboveAll o (app f ts) ss →
        Above o (app f ts) (app g ss)
    -- the levels are the same, and the arguments fall, each head's in the order of its status
    by_arguments :
        {f g : ℕ} {ts ss : Trees} → level o g ≡ level o f →
        Falls o (app f ts) (arranged o f ts) (arranged o g ss) → Above o (app f ts) (app g ss)

  -- some of the terms is s, or is above s
  pub data SomeReaches (o : Precedence) : Trees → Tree → Type 0 where
    this_is : {s : Tree} {ts : Trees} → SomeReaches o (some s ts) s
    this_above : {t s : Tree} {ts : Trees} → Above o t s → SomeReaches o (some t ts) s
    later : {t s : Tree} {ts : Trees} → SomeReaches o ts s → SomeReaches o (some t ts) s

  -- the term is above each of the terms
  pub data AboveAll (o : Precedence) : Tree → Trees → Type 0 where
    all_none : {t : Tree} → AboveAll o t none
    all_some :
        {t s : Tree} {ss : Trees} → Above o t s → AboveAll o t ss → AboveAll o t (some s ss)

  -- of two lists of one length: the first argument that differs is above its counterpart, and the
  -- term is above each one after that
  pub data Falls (o : Precedence) : Tree → Trees → Trees → Type 0 where
    here :
        {t a b : Tree} {ts ss : Trees} → length (list_of ts) ≡ length (list_of ss) → Above o a b →
        AboveAll o t ss → Falls o t (some a ts) (some b ss)
    further :
        {t a : Tree} {ts ss : Trees} → Falls o t ts ss → Falls o t (some a ts) (some a ss)
