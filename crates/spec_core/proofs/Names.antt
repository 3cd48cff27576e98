-- Places in a list and in its image.
use Rattle.std.proofs.Common.{◌≡◌, ℕ, ◌+◌, List, [], ◌∷◌, Bool, not, cond, Some, position, refl, ap, sym, ◌∙◌}
use Rattle.std.specs.Prelude.{map, slice_get, option_map}
use Rattle.std.specs.List.{prefix_len}
use Rattle.std.proofs.lemmas.List.{length-map}
use Rattle.std.proofs.lemmas.Option.{slice_get-map}

prefix_len-map : {A B : Type 0} (p : B → Bool) (f : A → B) (xs : List A) →
    prefix_len p (map f xs) ≡ prefix_len (λ x. p (f x)) xs
prefix_len-map p f [] = refl
prefix_len-map p f (x ∷ xs) = ap (λ n. cond (p (f x)) (1 + n) 0) (prefix_len-map p f xs)

pub position-map : {A B : Type 0} (p : B → Bool) (f : A → B) (xs : List A) →
    position p (map f xs) ≡ position (λ x. p (f x)) xs
position-map p f xs =
    let a = prefix_len-map (λ x. not (p x)) f xs in
    let b = length-map xs f in
    rw (a, b)

pub position-keys : {K X : Type 0} (p : List ℕ → Bool) (g : K → List ℕ) (es : List (K × X)) →
    position (λ k. p (g k)) (map (λ (e : K × X). e.0) es) ≡ position p
    (map (λ (e : List ℕ × X). e.0) (map (λ (e : K × X). (g e.0, e.1)) es))
position-keys {K} {X} p g es =
    position-map (λ k. p (g k)) (λ (e : K × X). e.0) es
    ∙ sym (position-map (λ (e : List ℕ × X). p e.0) (λ (e : K × X). (g e.0, e.1)) es)
    ∙ sym (position-map p (λ (e : List ℕ × X). e.0) (map (λ (e : K × X). (g e.0, e.1)) es))

-- the name of an entry of a table, through the views that a signature has of it
pub name_at : {K X : Type 0} (g : K → List ℕ) (es : List (K × X)) (i : ℕ) (k : K) (x : X) →
    slice_get es i ≡ Some (k, x) →
    slice_get (map (λ (e : List ℕ × X). e.0) (map (λ (e : K × X). (g e.0, e.1)) es)) i ≡ Some (g k)
name_at {K} {X} g es i k x h =
    slice_get-map (λ (e : List ℕ × X). e.0) (map (λ (e : K × X). (g e.0, e.1)) es) i
    ∙ ap (λ o. option_map (λ (e : List ℕ × X). e.0) o) (slice_get-map (λ (e : K × X). (g e.0, e.1)) es i
    ∙ ap (λ o. option_map (λ (e : K × X). (g e.0, e.1)) o) h)
