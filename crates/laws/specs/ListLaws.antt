-- Lists in general: elements of mapped and repeated lists.
use Rattle.std.specs.Prelude.{◌≡◌, refl, List, [], ◌∷◌, map, ℕ, zero, suc, ◌<◌, length, get_or, replicate}
use Rattle.std.proofs.Common.{ap, arith}

pub get_d_map : {A : Type 0} (f : A → A) (l : List A) (i : ℕ) (d : A) → i < length l → get_or (map f l) i d ≡ f (get_or l i d)
get_d_map f [] i d h = absurd (omega arith)
get_d_map f (x ∷ l) zero d h = refl
get_d_map f (x ∷ l) (suc i) d h = get_d_map f l i d (omega arith)

pub map-map : {A B C : Type 0} (f : B → C) (g : A → B) (l : List A) → map f (map g l) ≡ map (λ x. f (g x)) l
map-map f g [] = refl
map-map f g (x ∷ l) = ap (λ m. f (g x) ∷ m) (map-map f g l)

pub map_agree : {A B : Type 0} (f g : A → B) (l : List A) (d : A) → ((i : ℕ) → i < length l → f (get_or l i d) ≡ g (get_or l i d)) → map f l ≡ map g l
map_agree f g [] d e = refl
map_agree f g (x ∷ l) d e = λ i. e 0 (omega arith) i ∷ map_agree f g l d (λ j h. e (suc j) (omega arith)) i

pub map-replicate : {A B : Type 0} (f : A → B) (n : ℕ) (a : A) → map f (replicate n a) ≡ replicate n (f a)
map-replicate f zero a = refl
map-replicate f (suc n) a = ap (λ m. f a ∷ m) (map-replicate f n a)

pub map_same : {A : Type 0} (f : A → A) (l : List A) → ((x : A) → f x ≡ x) → map f l ≡ l
map_same f [] e = refl
map_same f (x ∷ l) e = λ i. e x i ∷ map_same f l e i
