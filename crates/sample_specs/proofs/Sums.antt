-- Values grow with each part of a term, and under a context and a substitution they keep which of two
-- terms has the greater one.
use Rattle.std.proofs.Common.{◌≡◌, ℕ, ◌+◌, ◌<◌, ◌≤◌, Bool, true, false, List, refl, sym, ◌∙◌, arith}
use Rattle.std.specs.Prelude.{◌==◌, if◌then◌else◌, slice_index_or}
use Rattle.term_core.specs.Tree.{Tree, Trees, var, app, none, some, instance, instances}
use Rattle.term_core.specs.Contexts.{Context, hole, under, around, plug}
use Rattle.term_order.specs.Laws.{IsTermOrder, HasRanks}
use Rattle.sample_specs.specs.SumOrder.{value, first_value, values, AboveInSums, RankInSums}

-- what the arguments add to the value of a term, where its symbol counts the first one twice or not
abbrev added : Bool → (ℕ → ℕ) → Trees → ℕ
added twice env ts = (if twice then 1 + first_value env ts else 0) + values env ts

module _ (env : ℕ → ℕ) where
  -- in a list of terms

  part_of_values : (before : Trees) (s : Tree) (after : Trees) → value env s ≤ values env (around before s after)
  part_of_values none s after = omega arith
  part_of_values (some b before) s after = omega (arith, part_of_values before s after)

  others_stay :
      (before : Trees) (t s : Tree) (after : Trees) →
      values env (around before t after) + value env s ≡ values env (around before s after) + value env t
  others_stay none t s after = omega arith
  others_stay (some b before) t s after = omega (arith, others_stay before t s after)

  -- below a symbol

  falls :
      (twice : Bool) (before : Trees) (t s : Tree) (after : Trees) → value env s < value env t →
      added twice env (around before s after) < added twice env (around before t after)
  falls true none t s after l = omega (arith, l)
  falls true (some b before) t s after l = omega (arith, l, others_stay before t s after)
  falls false before t s after l = omega (arith, l, others_stay before t s after)

  fell :
      (twice : Bool) (before : Trees) (t s : Tree) (after : Trees) →
      added twice env (around before s after) < added twice env (around before t after) →
      value env s < value env t
  fell true none t s after l = omega (arith, l)
  fell true (some b before) t s after l = omega (arith, l, others_stay before t s after)
  fell false before t s after l = omega (arith, l, others_stay before t s after)

  -- in a context

  part_of_context : (c : Context) (s : Tree) → value env s ≤ value env (plug c s)
  part_of_context hole s = omega arith
  part_of_context (under f before c after) s =
      omega (arith, part_of_context c s, part_of_values before (plug c s) after)

  pub part_falls :
      (f : ℕ) (before after : Trees) (c : Context) (s : Tree) →
      value env s < value env (plug (under f before c after) s)
  part_falls f before after c s =
      omega (arith, part_of_context c s, part_of_values before (plug c s) after)

  pub context_falls :
      (c : Context) (t s : Tree) → value env s < value env t → value env (plug c s) < value env (plug c t)
  context_falls hole t s l = l
  context_falls (under f before c after) t s l =
      omega (arith, falls (f == 4) before (plug c t) (plug c s) after (context_falls c t s l))

  context_fell :
      (c : Context) (t s : Tree) → value env (plug c s) < value env (plug c t) → value env s < value env t
  context_fell hole t s l = l
  context_fell (under f before c after) t s l =
      context_fell c t s (fell (f == 4) before (plug c t) (plug c s) after (omega (arith, l)))

-- under a substitution: the variables have the values of their terms

module _ (env : ℕ → ℕ) (xs : List Tree) where
  abbrev images : ℕ → ℕ
  images n = value env (slice_index_or xs n (var n))

  same_added :
      (twice : Bool) (ts : Trees) → first_value env (instances xs ts) ≡ first_value images ts →
      values env (instances xs ts) ≡ values images ts → added twice env (instances xs ts) ≡ added twice images ts
  same_added true ts e d = omega (arith, e, d)
  same_added false ts e d = omega (arith, d)

  mutual
    value_of_instance : (t : Tree) → value env (instance xs t) ≡ value images t
    value_of_instance (var n) = refl
    value_of_instance (app f ts) =
        omega (arith, same_added (f == 4) ts (first_of_instances ts) (values_of_instances ts))

    first_of_instances : (ts : Trees) → first_value env (instances xs ts) ≡ first_value images ts
    first_of_instances none = refl
    first_of_instances (some t ts) = value_of_instance t

    values_of_instances : (ts : Trees) → values env (instances xs ts) ≡ values images ts
    values_of_instances none = refl
    values_of_instances (some t ts) = omega (arith, value_of_instance t, values_of_instances ts)

  pub instance_falls :
      (t s : Tree) → value images s < value images t → value env (instance xs s) < value env (instance xs t)
  instance_falls t s l = omega (arith, l, value_of_instance t, value_of_instance s)

pub sum_order_laws : IsTermOrder AboveInSums
sum_order_laws = record {
  on_instances = λ xs t s above env. instance_falls env xs t s (above (images env xs));
  on_parts = λ f before after c s env. part_falls env f before after c s;
  in_one_context = λ c t s. (
    λ above env. context_fell env c t s (above env),
    λ above env. context_falls env c t s (above env),
  );
}

pub sum_order_ranks : HasRanks AboveInSums RankInSums
sum_order_ranks = record {
  some_rank = λ n k t l ground. (value (λ x. 0) t, refl);
  one_rank = λ n k t r q l ground a b. sym a ∙ b;
  on_arguments = λ n k f before after s r q l ground a b.
      omega (arith, a, b, part_falls (λ x. 0) f before after hole s);
  in_contexts = λ n k t s xs c r q l above depth gt gs a b.
      omega (
        arith,
        a,
        b,
        context_falls (λ x. 0) c (instance xs t) (instance xs s)
            (instance_falls (λ x. 0) xs t s (above (images (λ x. 0) xs))),
      );
}
