-- Open and reset: the keys that memory is cleared with are the record's.
use Rattle.std.proofs.Common.{◌≡◌, sym, ap, ◌∙◌, List, [], ℕ, length}
use Rattle.model.specs.Geometry.{Geometry}
use Rattle.model.specs.Glass.{glass_of}
use Rattle.model.specs.Record.{decode, encode}
use Rattle.model.specs.Open.{clear_memory, open_state, reset_state}
use Rattle.model.specs.Calls.{opening, reset, lent, answered, done}
use Rattle.laws.specs.Record.{length-encode, well_sized}
use Rattle.laws.specs.Opening.{open_formed, open_keys}
use Rattle.updates.specs.Update.{updated}
use Rattle.accepted.specs.Opened.{Opened}

module _ {r m keys : List ℕ} (graphics text version edge : ℕ) (o : Opened r m graphics text version keys edge) {s : List ℕ}
    (e : s ≡ encode (glass_of (length r)) (open_state (glass_of (length r)) graphics text version keys edge)) where
  abbrev g : Geometry
  g = glass_of (length r)

  -- the record is as long as it was
  long : length s ≡ length r
  long = ap length e ∙ length-encode g _ (well_sized g _ (open_formed g o.glass graphics text version keys edge o.told)) ∙ sym o.sized

  pub was_opened : {n : List ℕ} → n ≡ clear_memory (decode (glass_of (length s)) s).keys → answered 0 [] (lent s n []) ≡ done g (opening graphics text version keys edge) (lent r m [])
  unfolding done
  was_opened f =
      let keys_kept = ap (λ (n : ℕ). (decode (glass_of n) s).keys) long ∙ ap (λ (x : List ℕ). (decode g x).keys) e ∙ open_keys g o.glass graphics text version keys edge o.told in
      λ i. answered 0 [] (lent (e i) ((f ∙ ap clear_memory keys_kept) i) [])

pub was_reset : (r m : List ℕ) {s n : List ℕ} → n ≡ clear_memory (decode (glass_of (length r)) r).keys → s ≡ updated reset_state r
    → answered 0 [] (lent s n []) ≡ done (glass_of (length r)) reset (lent r m [])
unfolding done updated
was_reset r m e f = λ i. answered 0 [] (lent (f i) (e i) [])
