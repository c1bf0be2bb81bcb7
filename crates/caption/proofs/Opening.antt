-- The ends of an open, which doesn't read the old record: LENT, WINDOW, VALUE, done.
use Rattle.std.proofs.Common.{◌≡◌, sym, ap, ◌∙◌, List, [], Bool, true, false, ◌&&◌, ℕ, eqb-true, eqb, leb, length}
use Rattle.model.specs.declared.refusal.Refusal.TheVariants as refusals
use Rattle.model.specs.declared.glass.Glass.{Glass}
use Rattle.model.specs.Geometry.{Geometry}
use Rattle.model.specs.Bytes.{Words}
use Rattle.model.specs.Glass.{geometry, glass_of}
use Rattle.model.specs.Record.{record_bytes, windows, edge_fits}
use Rattle.model.specs.Refusals.{LENT, WINDOW, VALUE}
use Rattle.model.specs.Calls.{Outcome, opening, lent, answered, refusals, done, outcome}
use Rattle.laws.specs.Tests.{and-true}
use Rattle.record.specs.Entry.{Chosen}
use Rattle.record.proofs.Entering.{lent_as, lent_sized}
use Rattle.accepted.specs.Opened.{Opened}
use Rattle.caption.proofs.Calls.{fails, passes, none_left, refused_by, is_done}

module _ {v : Glass} (r m : List ℕ) (graphics text version : ℕ) (keys : List ℕ) (edge : ℕ) (k : Chosen (length r) v) where
  abbrev g : Geometry
  g = glass_of (length r)

  windows_as : {t u : Bool} → t ≡ windows (geometry v) graphics text → t ≡ u → windows g graphics text ≡ u
  windows_as e f = ap (λ (x : Geometry). windows x graphics text) (sym k.glass) ∙ sym e ∙ f

  pub open_lent : (eqb (length r) v.bytes && eqb (length m) 65536) ≡ false → answered LENT [] (lent r m []) ≡ outcome g (opening graphics text version keys edge) (lent r m [])
  unfolding refusals
  open_lent e = refused_by g (opening graphics text version keys edge) (lent r m []) refusals.Lent (fails _ (lent_as (eqb (length m) 65536) r k e))

  module _ (e : (eqb (length r) v.bytes && eqb (length m) 65536) ≡ true) {t : Bool} (w : t ≡ windows (geometry v) graphics text) where
    pub open_window : t ≡ false → answered WINDOW [] (lent r m []) ≡ outcome g (opening graphics text version keys edge) (lent r m [])
    unfolding refusals
    open_window f = refused_by g (opening graphics text version keys edge) (lent r m []) refusals.Window (passes LENT _ (lent_as (eqb (length m) 65536) r k e) (fails _ (windows_as w f)))

    pub open_value : {x : Bool} → t ≡ true → x ≡ edge_fits edge → (leb version 1 && x) ≡ false → answered VALUE [] (lent r m []) ≡ outcome g (opening graphics text version keys edge) (lent r m [])
    unfolding refusals
    open_value f i h =
        refused_by g (opening graphics text version keys edge) (lent r m []) refusals.Value
        (passes LENT _ (lent_as (eqb (length m) 65536) r k e) (passes WINDOW _ (windows_as w f) (fails [] (ap (λ (y : Bool). leb version 1 && y) (sym i) ∙ h))))

    pub open_ends : {o : Outcome} {x : Bool} → t ≡ true → x ≡ edge_fits edge → (leb version 1 && x) ≡ true → o ≡ done g (opening graphics text version keys edge) (lent r m [])
        → o ≡ outcome g (opening graphics text version keys edge) (lent r m [])
    unfolding refusals
    open_ends f i h d =
        d ∙ is_done g (opening graphics text version keys edge) (lent r m [])
        (passes LENT _ (lent_as (eqb (length m) 65536) r k e) (passes WINDOW _ (windows_as w f) (passes VALUE [] (ap (λ (y : Bool). leb version 1 && y) (sym i) ∙ h) none_left)))

    pub may_open : {x : Bool} → t ≡ true → x ≡ edge_fits edge → (leb version 1 && x) ≡ true → length keys ≡ 8 → Words keys → Opened r m graphics text version keys edge
    may_open {x} f i h n ws =
        let listed = and-true (leb version 1) x h in
        record {
          glass = rw k.glass at k.suits.glass;
          sized = lent_sized (eqb (length m) 65536) r k e ∙ ap record_bytes k.glass;
          memory = eqb-true (length m) 65536 (and-true (eqb (length r) v.bytes) (eqb (length m) 65536) e).1;
          told = record { apart = windows_as w f; listed = listed.0; flag = sym i ∙ listed.1; count = n; words = ws };
        }
