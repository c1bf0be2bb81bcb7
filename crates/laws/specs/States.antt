-- A record that passes STATE means a well formed state, and the bytes of a well formed state pass.
use Rattle.std.specs.Prelude.{◌≡◌, List, [], ◌∷◌, ◌++◌, true, ℕ, zero, suc, ◌+◌, ◌*◌, ◌<◌}
use Rattle.std.proofs.Math.Path.{refl, ap}
use Rattle.std.proofs.Common.{◌∙◌, arith}
use Rattle.model.specs.declared.Rect.{Rect}
use Rattle.model.specs.Geometry.{Geometry, cells}
use Rattle.model.specs.Bytes.{words_at, four, rect_bytes, rects_bytes, words_bytes, four_bytes, Bytes, Words}
use Rattle.model.specs.Record.{RecordPart, written, head, panel, keys, flags, edge, has, layout, size, part_in, State, decode, encode, bytes_of_head, part_bytes, panel_of, part_fits, valid, WellFormed}
use Rattle.model.specs.Glass.{IsGlass}
use Rattle.laws.specs.Tests.{tests}
use Rattle.laws.specs.Layout.{bytes_nil, bytes_append, bytes_all, bytes_rect, length-rects_at}
use Rattle.laws.specs.PartLists.{length-written, all_of}
use Rattle.laws.specs.Flags.{length-flags_in, flags-fit, flags_bytes}
use Rattle.laws.specs.Record.{Passing, head_tells, part_passes, has_head, has_flags, has_edge, has_panel, panel_has, length_part, bytes_part, panel_decoded, count-decode, well_sized, sizes, part-encode, head_back, pending_back}

-- ---- a record that passes

four-lt : (r : List ℕ) (i : ℕ) → Bytes r → four r i < 4294967296
unfolding Bytes
four-lt r i b = omega (arith, b i, b (i + 1), b (i + 2), b (i + 2 + 1))

words : (n : ℕ) (r : List ℕ) (i : ℕ) → Bytes r → Words (words_at n r i)
words zero r i b = tt
words (suc n) r i b = (four-lt r i b, words n r (i + 4) b)

pub well_formed : (g : Geometry) (r : List ℕ) → Passing g r → WellFormed g (decode g r)
unfolding decode part_fits
well_formed g r p = record {
  head = part_passes g r p head (has_head g);
  count = count-decode g r;
  panels = λ k h. rw (panel_decoded g r k h) (record {
    passes = part_passes g r p (panel k) (has_panel g k h);
    bands = length-rects_at g.bands (part_in g (panel k) r) 0;
    counted = four-lt (part_in g (panel k) r) (0 + 8 * g.bands + 8) (bytes_part g (panel k) r p.bytes);
  });
  words = refl;
  keys = words 8 (part_in g keys r) 0 (bytes_part g keys r p.bytes);
  flags = length-flags_in (cells g) (part_in g flags r) (length_part g flags r (has_flags g) p.sized);
  edge = part_passes g r p edge (has_edge g);
}

-- ---- a well formed state

rects-bytes : (qs : List Rect) → Bytes (rects_bytes qs)
rects-bytes [] = bytes_nil
rects-bytes (q ∷ qs) = bytes_append (rect_bytes q) (rects_bytes qs) (bytes_rect q) (rects-bytes qs)

words-bytes : (ws : List ℕ) → Bytes (words_bytes ws)
words-bytes [] = bytes_nil
words-bytes (w ∷ ws) = bytes_append (four_bytes w) (words_bytes ws) (bytes_all (four_bytes w) (omega arith)) (words-bytes ws)

bytes_written : (f : RecordPart → List ℕ) (ps : List RecordPart) → ((p : RecordPart) → Bytes (f p)) → Bytes (written f ps)
unfolding written
bytes_written f [] b = bytes_nil
bytes_written f (p ∷ ps) b = bytes_append (f p) (written f ps) (b p) (bytes_written f ps b)

module _ (g : Geometry) (k : IsGlass g) (s : State) (f : WellFormed g s) where
  part-bytes : (p : RecordPart) → Bytes (part_bytes g s p)
  unfolding part_bytes
  part-bytes head = let n = head_tells g s.head f.head in bytes_all (bytes_of_head s.head) (omega arith)
  part-bytes (panel i) =
      let p = panel_of g s i in
      let rest = rect_bytes p.hand ++ four_bytes p.sent in
      bytes_append (rects_bytes p.owed) rest (rects-bytes p.owed) (bytes_all rest (omega arith))
  part-bytes keys = words-bytes s.keys
  part-bytes flags = flags_bytes s.flags
  part-bytes edge = bytes_all (s.edge ∷ []) (omega (arith, tests, f.edge))

  part-fits : (p : RecordPart) → has p (layout g) ≡ true → part_fits g p (part_bytes g s p) ≡ true
  unfolding part_bytes part_fits
  part-fits head h = cc (head_back g s.head f.head)
  part-fits (panel i) h = let w = f.panels i (panel_has g i k.one h) in cc (pending_back g (panel_of g s i) k w)
  part-fits keys h = refl
  part-fits flags h = cc (flags-fit s.flags)
  part-fits edge h = f.edge

  pub encode_passing : Passing g (encode g s)
  unfolding encode valid
  encode_passing = record {
    glass = k;
    sized = length-written (size g) (part_bytes g s) (layout g) (sizes g s (well_sized g s f));
    bytes = bytes_written (part_bytes g s) (layout g) part-bytes;
    passes = all_of (λ p. part_fits g p (part_in g p (encode g s))) (layout g) (λ p h. ap (part_fits g p) (part-encode g s (well_sized g s f) p h) ∙ part-fits p h);
  }
