-- Ground terms in contexts, contexts round the arguments of a symbol, and instances of contexts.
use Rattle.std.proofs.Common.{◌≡◌, ℕ, List, inl, inr, refl, ap, sym, ◌∙◌, subst, arith, length}
use Rattle.term_core.specs.Tree.{Tree, Trees, app, none, some, instance, instances, list_of}
use Rattle.term_core.specs.Contexts.{Context, hole, under, around, plug}
use Rattle.term_core.specs.Ground.{IsGroundIn, AreGroundIn}
use Rattle.term_core.proofs.Members.{In}

around_long : (before : Trees) (t v : Tree) (after : Trees) →
    length (list_of (around before t after)) ≡ length (list_of (around before v after))
around_long none t v after = omega arith
around_long (some a before) t v after = omega (arith, around_long before t v after)

around_ground : (n : ℕ) (before : Trees) (t v : Tree) (after : Trees) → AreGroundIn n (around before t after) →
    (IsGroundIn n t → IsGroundIn n v) → AreGroundIn n (around before v after)
around_ground n none t v after g h = (h g.0, g.1)
around_ground n (some a before) t v after g h = (g.0, around_ground n before t v after g.1 h)

-- another ground term in the hole
pub plug_ground : (n : ℕ) (c : Context) (t v : Tree) → IsGroundIn n (plug c t) → IsGroundIn n v →
    IsGroundIn n (plug c v)
plug_ground n hole t v g h = h
plug_ground n (under f before c after) t v g h = (
  g.0,
  omega (arith, g.1, around_long before (plug c t) (plug c v) after),
  around_ground n before (plug c t) (plug c v) after g.2 (λ k. plug_ground n c t v k h),
)

-- the context with a symbol and its other arguments in the hole
abbrev pub inside : Context → ℕ → Trees → Trees → Context
inside hole f before after = under f before hole after
inside (under g left c right) f before after = under g left (inside c f before after) right

pub inside_is : (c : Context) (f : ℕ) (before : Trees) (t : Tree) (after : Trees) →
    plug (inside c f before after) t ≡ plug c (app f (around before t after))
inside_is hole f before t after = refl
inside_is (under g left c right) f before t after = ap (λ u. app g (around left u right)) (inside_is c f before t after)

-- terms in a row: some, and others
abbrev pub join : Trees → Trees → Trees
join none us = us
join (some t ts) us = some t (join ts us)

pub around_join : (before : Trees) (t : Tree) (after : Trees) → around before t after ≡ join before (some t after)
around_join none t after = refl
around_join (some a before) t after = ap (λ us. some a us) (around_join before t after)

pub join_one : (before : Trees) (t : Tree) (after : Trees) →
    join (join before (some t none)) after ≡ join before (some t after)
join_one none t after = refl
join_one (some a before) t after = ap (λ us. some a us) (join_one before t after)

-- a member of a row, with what is before it and after it
pub member_around : (s : Tree) (ts : Trees) → In s (list_of ts) → (before : Trees) × (after : Trees)
    × (ts ≡ around before s after)
member_around s none h = absurd h
member_around s (some t ts) (inl e) = (none, ts, ap (λ u. some u ts) (sym e))
member_around s (some t ts) (inr h) = let r = member_around s ts h in (some t r.0, r.1, ap (λ us. some t us) r.2)

pub member_ground : (n : ℕ) (s : Tree) (ts : Trees) → In s (list_of ts) → AreGroundIn n ts → IsGroundIn n s
member_ground n s none h g = absurd h
member_ground n s (some t ts) (inl e) g = subst (IsGroundIn n) (sym e) g.0
member_ground n s (some t ts) (inr h) g = member_ground n s ts h g.1

-- the instance of a context
abbrev pub context_instance : List Tree → Context → Context
context_instance xs hole = hole
context_instance xs (under f before c after) = under f (instances xs before) (context_instance xs c)
    (instances xs after)

pub around_instance : (xs : List Tree) (before : Trees) (t : Tree) (after : Trees) →
    instances xs (around before t after) ≡ around (instances xs before) (instance xs t) (instances xs after)
around_instance xs none t after = refl
around_instance xs (some a before) t after = ap (λ us. some (instance xs a) us) (around_instance xs before t after)

pub plug_instance : (xs : List Tree) (c : Context) (t : Tree) →
    instance xs (plug c t) ≡ plug (context_instance xs c) (instance xs t)
plug_instance xs hole t = refl
plug_instance xs (under f before c after) t = ap (λ us. app f us) (around_instance xs before (plug c t) after
    ∙ ap (λ u. around (instances xs before) u (instances xs after)) (plug_instance xs c t))

-- what occurs in a ground term is ground
pub around_inside : (n : ℕ) (before : Trees) (t : Tree) (after : Trees) →
    AreGroundIn n (around before t after) → IsGroundIn n t
around_inside n none t after g = g.0
around_inside n (some a before) t after g = around_inside n before t after g.1

pub plug_inside : (n : ℕ) (c : Context) (t : Tree) → IsGroundIn n (plug c t) → IsGroundIn n t
plug_inside n hole t g = g
plug_inside n (under f before c after) t g = plug_inside n c t (around_inside n before (plug c t) after g.2)
