-- The ordering of Knuth and Bendix: first by weight, then by the numbers of the heads, and then by the
-- arguments. No variable is more often in the smaller term.
use Rattle.std.specs.Prelude.{◌≡◌, ℕ, ◌<◌, length}
use Rattle.term_core.specs.Tree.{Tree, Trees, app, some, list_of}
use Rattle.kbo_order.specs.Weights.{weight_of, Covers}

mutual
  -- the first term is above the second, where w is the weight of symbols
  pub data AboveByWeight (w : ℕ → ℕ) : Tree → Tree → Type 0 where
    -- it weighs more
    by_weight :
        {t s : Tree} → Covers t s → weight_of w s < weight_of w t → AboveByWeight w t s
    -- they weigh the same, and the head of s has the smaller number
    by_head :
        {f g : ℕ} {ts ss : Trees} → Covers (app f ts) (app g ss) →
        weight_of w (app f ts) ≡ weight_of w (app g ss) → g < f →
        AboveByWeight w (app f ts) (app g ss)
    -- they weigh the same and have the same head, and the arguments fall
    by_arguments :
        {f : ℕ} {ts ss : Trees} → Covers (app f ts) (app f ss) →
        weight_of w (app f ts) ≡ weight_of w (app f ss) → ArgumentsFall w ts ss →
        AboveByWeight w (app f ts) (app f ss)

  -- of two lists of one length: the first argument that differs is above its counterpart
  pub data ArgumentsFall (w : ℕ → ℕ) : Trees → Trees → Type 0 where
    here :
        {a b : Tree} {ts ss : Trees} → length (list_of ts) ≡ length (list_of ss) →
        AboveByWeight w a b → ArgumentsFall w (some a ts) (some b ss)
    further :
        {a : Tree} {ts ss : Trees} → ArgumentsFall w ts ss →
        ArgumentsFall w (some a ts) (some a ss)
