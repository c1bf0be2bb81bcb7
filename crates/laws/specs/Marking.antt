-- A mark on the bytes of a record: band after band, its part there joined to what each panel is owed; and the state that these bytes mean.
use Rattle.std.specs.Prelude.{◌≡◌, ◌⊎◌, Bool, true, false, get_or}
use Rattle.std.proofs.Math.Path.{refl, ap}
use Rattle.std.proofs.Common.{sym, ◌∙◌, inl, inr, take-append-drop, length-set, get_or-set_other}
use mathlib.Core.List.{List, [], ◌∷◌, ◌++◌, append_assoc, map}
use Prim.Native.Nat.{ℕ, zero, suc, ◌+◌, ◌*◌, ◌<◌, ◌≤◌}
use Rattle.std.proofs.Math.Nat.{mul-le-mul_right}
use native.Mathlib.Omega.{arith}
use Rattle.std.proofs.Math.ListN.{length, set, drop, length-append}
use Rattle.std.proofs.lemmas.List.{length-map, set_at}
use Rattle.std.proofs.Math.Seq.{drop-drop, get_or_at, set-get_or, append_snoc}
use Rattle.model.specs.declared.Rect.{Rect}
use Rattle.model.specs.Geometry.{Geometry, width}
use Rattle.model.specs.Glass.{IsGlass}
use Rattle.model.specs.Memory.{window}
use Rattle.model.specs.Rects.{none, is_empty, join}
use Rattle.model.specs.Bytes.{rect_at, rects_at, rect_bytes, rects_bytes, four_bytes}
use Rattle.model.specs.Record.{panel, at, pending_bytes, bytes_of_pending, Pending, State, decode, encode, part_bytes, panel_of, nothing_pending, with_panel, with_panels, WellPending, WellFormed}
use Rattle.laws.specs.Rects.{empty_none, cut_outside, join-none}
use Rattle.laws.specs.ListLaws.{get_d_map, map_same}
use Rattle.laws.specs.Memory.{window_back, window-inside}
use Rattle.laws.specs.Layout.{rects_from, rect_of, rects_set}
use Rattle.laws.specs.Record.{Passing, Sized, sizes, length-encode, owed_back, has_panel, part-in, part-encode, put_panel, encode-decode, decode-encode, well_sized, sized_panel}
use Rattle.laws.specs.States.{well_formed, encode_passing}
use Rattle.laws.specs.Bands.{band_some}
use Rattle.laws.specs.BandParts.{band_part, owing_in, well_in, whole_band, join_band, owing_from}
use Rattle.laws.specs.Owed.{joined_at, owed_at}

-- ---- on the bytes

-- f done to the rectangle of band i of each panel from k on, n of them
unfoldable pub each_from : Geometry → ℕ → (ℕ → List ℕ → List ℕ) → ℕ → ℕ → List ℕ → List ℕ
each_from g i f k zero r = r
each_from g i f k (suc n) r = each_from g i f (suc k) n (f (at g (panel k) + 8 * i) r)

-- ---- one band of one panel

module _ (g : Geometry) (m : Rect) (i : ℕ) (j : i < g.bands) (s : State) (z : Sized g s) (c : length s.panels ≡ g.panels) (l : IsGlass g) (k : ℕ) (h : k < g.panels)
    (b : WellPending g (panel_of g s k)) where
  abbrev place : ℕ
  place = at g (panel k) + 8 * i

  -- the rectangle that stands there
  stands : rect_at (encode g s) place ≡ get_or (panel_of g s k).owed i none
  unfolding window part_bytes
  stands =
      let a = at g (panel k) in
      let r = encode g s in
      let p = panel_of g s k in
      let t = rect_bytes p.hand ++ four_bytes p.sent in
      let rest = drop (a + pending_bytes g) r in
      let part = part-encode g s z (panel k) (has_panel g k h) in
      let here : drop a r ≡ rects_bytes p.owed ++ (t ++ rest) = cc (take-append-drop (pending_bytes g) (drop a r), drop-drop (pending_bytes g) a r, append_assoc (rects_bytes p.owed) t rest) in
      let owed : rects_at g.bands r a ≡ p.owed = cc (rects_from r a g.bands, owed_back g p (t ++ rest) l b) in
      cc (rect_of g.bands r a i j)

  mark_panel : owed_at false place (band_part g m i) (encode g s) ≡ encode g (with_panel k (owing_in g m i (panel_of g s k)) s)
  unfolding owed_at joined_at owing_in part_bytes
  mark_panel =
      let a = at g (panel k) in
      let r = encode g s in
      let p = panel_of g s k in
      let t = rect_bytes p.hand ++ four_bytes p.sent in
      let new = join (get_or p.owed i none) (band_part g m i) in
      let part = part-encode g s z (panel k) (has_panel g k h) in
      let room : a + pending_bytes g ≤ length r = rw (length-encode g s z) (part-in g (panel k) (has_panel g k h)) in
      cc (
        stands,
        window_back a (pending_bytes g) r room,
        window-inside a (8 * i) (rect_bytes new) (bytes_of_pending p) r (omega arith) (omega (arith, sizes g s z (panel k))),
        rects_set p.owed t i new (omega arith),
        put_panel g k (owing_in g m i p) s l z h c (well_in g m i j p b).bands,
      )

  -- where the mark has the whole band, its part is what is owed then
  fill_panel : band_part g m i ≡ whole_band g i → owed_at true place (band_part g m i) (encode g s) ≡ encode g (with_panel k (owing_in g m i (panel_of g s k)) s)
  unfolding owed_at joined_at
  fill_panel e =
      cc (stands, join_band g i (omega (arith, l.columns)) (band_some g.bands g.band 0 (omega (arith, l.row, l.filled))) j (panel_of g s k) b, mark_panel)

  owe_panel : (whole : Bool) → (whole ≡ true → band_part g m i ≡ whole_band g i) → owed_at whole place (band_part g m i) (encode g s) ≡ encode g (with_panel k (owing_in g m i (panel_of g s k)) s)
  owe_panel true w = fill_panel (w refl)
  owe_panel false w = mark_panel

-- ---- one band of each panel: those of a are done, those of b are to come

module _ (g : Geometry) (m : Rect) (i : ℕ) (j : i < g.bands) (l : IsGlass g) (f : ℕ → List ℕ → List ℕ)
    (each : (s : State) → Sized g s → length s.panels ≡ g.panels → (k : ℕ) → k < g.panels → WellPending g (panel_of g s k)
    → f (at g (panel k) + 8 * i) (encode g s) ≡ encode g (with_panel k (owing_in g m i (panel_of g s k)) s)) where
  panels_from : (a b : List Pending) (k : ℕ) (s : State) → s.panels ≡ a ++ b → length a ≡ k → length s.panels ≡ g.panels → Sized g s
      → ((n : ℕ) → k ≤ n → n < g.panels → WellPending g (panel_of g s n))
      → each_from g i f k (length b) (encode g s) ≡ encode g (with_panels (a ++ map (owing_in g m i) b) s)
  unfolding each_from
  panels_from a [] k s e n c z h = ap (λ (ps : List Pending). encode g (with_panels ps s)) e
  panels_from a (x ∷ b) k s e n c z h =
      let q = owing_in g m i x in
      let p = owing_in g m i (panel_of g s k) in
      let u : k < g.panels = omega (arith, ap length e, length-append a (x ∷ b)) in
      let w = h k (omega arith) u in
      let here : set s.panels k p ≡ (a ++ (q ∷ [])) ++ b = cc (set_at a x b p k n, get_or_at a x b (nothing_pending g) k n, append_snoc a q b) in
      let rest = panels_from (a ++ (q ∷ [])) b (suc k) (with_panel k p s) here (omega (arith, length-append a (q ∷ []))) (length-set s.panels k p ∙ c)
      (sized_panel g k p s z (omega arith) (well_in g m i j (panel_of g s k) w).bands)
      (λ n o d. rw (get_or-set_other s.panels k n p (nothing_pending g) (λ x. omega arith)) (h n (omega arith) d)) in
      cc (each s z c k u w, append_snoc a q (map (owing_in g m i) b))

  band_marked : (s : State) → WellFormed g s → each_from g i f 0 g.panels (encode g s) ≡ encode g (with_panels (map (owing_in g m i) s.panels) s)
  band_marked s w = cc (panels_from [] s.panels 0 s refl refl w.count (well_sized g s w) (λ n o h. w.panels n h), w.count)

-- ---- each panel's part changed, where it stays what STATE asks for

pub each_formed : (g : Geometry) (f : Pending → Pending) (s : State) → ((p : Pending) → WellPending g p → WellPending g (f p)) → WellFormed g s → WellFormed g (with_panels (map f s.panels) s)
each_formed g f s w k = record {
  head = k.head;
  count = length-map s.panels f ∙ k.count;
  panels = λ n h. rw (get_d_map f s.panels n (nothing_pending g) (omega (arith, k.count))) (w (panel_of g s n) (k.panels n h));
  words = k.words;
  keys = k.keys;
  flags = k.flags;
  edge = k.edge;
}

-- ---- bands that the mark does not reach

module _ (g : Geometry) (m : Rect) where
  owing-none : (i : ℕ) (p : Pending) → band_part g m i ≡ none → owing_in g m i p ≡ p
  unfolding owing_in
  owing-none i p n =
      let e : set p.owed i (join (get_or p.owed i none) (band_part g m i)) ≡ p.owed = cc (join-none (get_or p.owed i none), set-get_or p.owed i none) in
      λ x. record { owed = e x; hand = p.hand; sent = p.sent }

  outside : (i : ℕ) → (i * g.band + g.band ≤ m.top) ⊎ (m.bottom ≤ i * g.band) → band_part g m i ≡ none
  outside i o = cut_outside (width g) (i * g.band) (i * g.band + g.band) m o

  -- those above it
  pub skip_above : (d i n : ℕ) (p : Pending) → (i + d) * g.band ≤ m.top → owing_from g m i (d + n) p ≡ owing_from g m (i + d) n p
  unfolding owing_from
  skip_above zero i n p t = let e : i + 0 ≡ i = omega arith in let f : 0 + n ≡ n = omega arith in cc
  skip_above (suc d) i n p t =
      let e : i + suc d ≡ suc i + d = omega arith in
      let f : suc d + n ≡ suc (d + n) = omega arith in
      let low : suc i * g.band ≤ (i + suc d) * g.band = mul-le-mul_right g.band (omega arith) in
      cc (owing-none i p (outside i (inl (omega arith))), skip_above d (suc i) n p (rw e at t))

  -- those below it
  pub skip_below : (n i : ℕ) (p : Pending) → m.bottom ≤ i * g.band → owing_from g m i n p ≡ p
  unfolding owing_from
  skip_below zero i p t = refl
  skip_below (suc n) i p t = cc (owing-none i p (outside i (inr t)), skip_below n (suc i) p (omega arith))

-- ---- a band's part of a mark, in every panel

-- r' is r with band i's part of m owed to each panel
pub record BandMarked (g : Geometry) (m : Rect) (i : ℕ) (r r' : List ℕ) : Type 0 where
  pub passing : Passing g r'
  pub state : decode g r' ≡ with_panels (map (owing_in g m i) (decode g r).panels) (decode g r)

-- where nothing of the mark lies in it, the record stays
pub empty_band : (g : Geometry) (m : Rect) (i : ℕ) {r : List ℕ} → Passing g r → {q : Rect} {t : Bool} → q ≡ band_part g m i → t ≡ is_empty q → t ≡ true → BandMarked g m i r r
empty_band g m i {r} p {q} e f y =
    let none-there : band_part g m i ≡ none = sym e ∙ empty_none q (sym f ∙ y) in
    let same = map_same (owing_in g m i) (decode g r).panels (λ x. owing-none g m i x none-there) in
    record { passing = p; state = ap (λ (ps : List Pending). with_panels ps (decode g r)) (sym same) }

module _ (g : Geometry) (m : Rect) (i : ℕ) {r r' : List ℕ} (p : Passing g r) (j : i < g.bands) where
  was_marked : r' ≡ encode g (with_panels (map (owing_in g m i) (decode g r).panels) (decode g r)) → BandMarked g m i r r'
  was_marked e =
      let s = decode g r in
      let w = each_formed g (owing_in g m i) s (well_in g m i j) (well_formed g r p) in
      record { passing = rw e (encode_passing g p.glass (with_panels (map (owing_in g m i) s.panels) s) w); state = ap (decode g) e ∙ decode-encode g (with_panels (map (owing_in g m i) s.panels) s) p.glass w }

  -- joined, or stored where it is the whole band
  pub owed_band : (whole : Bool) {q : Rect} → (whole ≡ true → band_part g m i ≡ whole_band g i) → q ≡ band_part g m i
      → r' ≡ each_from g i (λ a. owed_at whole a q) 0 g.panels r → BandMarked g m i r r'
  owed_band whole w e f =
      let part = band_part g m i in
      was_marked (f ∙ ap (λ (x : Rect). each_from g i (λ a. owed_at whole a x) 0 g.panels r) e ∙ ap (each_from g i (λ a. owed_at whole a part) 0 g.panels) (sym (encode-decode g r p))
      ∙ band_marked g m i j p.glass (λ a. owed_at whole a part) (λ s z c k h b. owe_panel g m i j s z c p.glass k h b whole w) (decode g r) (well_formed g r p))
