-- The accepted calls of a list: what stands after the list is what they leave.
use Rattle.std.specs.Prelude.{◌≡◌, cond, ℕ, zero, suc, eqb, replicate}
use Rattle.std.proofs.Math.Path.{refl}
use Rattle.std.proofs.Common.{ap, ◌∙◌, eq-eqb}
use mathlib.Core.List.{List, [], ◌∷◌, ◌++◌}
use Rattle.std.proofs.lemmas.List.{set-get_or}
use Rattle.model.specs.Geometry.{Geometry}
use Rattle.model.specs.Refusals.{refusal, ruled}
use Rattle.model.specs.Calls.{Call, Lent, Lending, to_open, record_only, with_memory, with_fonts, with-panel, takes, answered, refusals, refused, done, outcome}
use Rattle.model.specs.Lists.{accepted, Typed, Item, here, elsewhere, Buffers, buffers, lent_to, given_back, leaves, after, run, Effect, nothing, effect, effect_at, item_effect}
use Rattle.laws.specs.Calls.{outcome-done}

-- ---- the definitions

-- the call of an item where it is accepted
unfoldable pub accepted_call : (g : Geometry) → Buffers → Item g → List Call
accepted_call g b (here c t) = ruled (refusal (refusals g c (lent_to (takes c) b))) (λ n. []) (c ∷ [])
accepted_call g b (elsewhere c l r) = []

-- the accepted calls of a list, in its order
unfoldable pub accepted_calls : (g : Geometry) → Buffers → List (Item g) → List Call
accepted_calls g b [] = []
accepted_calls g b (i ∷ is) = accepted_call g b i ++ accepted_calls g (after g b i) is

-- what calls leave, one after another, each lent what it takes
unfoldable pub left_by : Geometry → Buffers → List Call → Buffers
left_by g b [] = b
left_by g b (c ∷ cs) = left_by g (leaves g c b) cs

-- how many of the sends to the panels js name panel k
unfoldable pub named : ℕ → List ℕ → ℕ
named k [] = 0
named k (j ∷ js) = cond (eqb j k) (suc (named k js)) (named k js)

pub named_row : (k n : ℕ) → named k (replicate n k) ≡ n
unfolding named
named_row k zero = refl
named_row k (suc n) = rw (eq-eqb k k refl) (ap suc (named_row k n))

-- ---- a call

-- what stands after a call that is lent what it takes and is done
abbrev pub done_on : Geometry → Call → Buffers → Buffers
done_on g c b = given_back (takes c) b (done g c (lent_to (takes c) b)).left

-- lent and given back unchanged, all stands as before
back_same : (p : Lending) (b : Buffers) → given_back p b (lent_to p b) ≡ b
unfolding lent_to given_back
back_same to_open b = refl
back_same record_only b = refl
back_same with_memory b = refl
back_same (with_fonts f) b = refl
back_same (with-panel k) b = ap (buffers b.rec b.memory) (set-get_or b.panels k [])

module _ (g : Geometry) where
  pub leaves-done : (c : Call) (b : Buffers) → accepted g c (lent_to (takes c) b) → leaves g c b ≡ done_on g c b
  unfolding leaves
  leaves-done c b a = rw (outcome-done g c (lent_to (takes c) b) a) refl

  -- what holds after an accepted call, and where nothing is done, holds after every item
  pub by_item : (P : Buffers → Effect → List Call → Type 0) (b : Buffers) (i : Item g)
      → ((c : Call) → Typed c → accepted g c (lent_to (takes c) b) → P (done_on g c b) (effect g c (lent_to (takes c) b)) (c ∷ []))
      → P b nothing [] → P (after g b i) (item_effect g b i) (accepted_call g b i)
  unfolding after leaves item_effect effect_at accepted_call ruled outcome refused answered
  by_item P b (elsewhere c l r) f n = n
  by_item P b (here c t) f n = go (refusal (refusals g c given)) refl
    where
      given : Lent
      given = lent_to (takes c) b

      go : (m : ℕ) → refusal (refusals g c given) ≡ m → P (given_back (takes c) b (ruled m (refused c given) (done g c given)).left) (effect_at m (effect g c given)) (ruled m (λ j. []) (c ∷ []))
      go zero a = f c t a
      go (suc m) a = rw (back_same (takes c) b) n

  -- a list leaves what its accepted calls leave
  pub left-run : (b : Buffers) (is : List (Item g)) → run g b is ≡ left_by g b (accepted_calls g b is)
  unfolding run accepted_calls left_by
  left-run b [] = refl
  left-run b (i ∷ is) =
      let cs = accepted_calls g (after g b i) is in
      left-run (after g b i) is ∙ by_item (λ d e ds. left_by g d cs ≡ left_by g b (ds ++ cs)) b i (λ c t a. rw (← leaves-done c b a)) refl
