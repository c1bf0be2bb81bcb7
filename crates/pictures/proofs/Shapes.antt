-- The pictures of points, lines, boxes, circles and bitmaps: each computes from its drawing.
use Rattle.std.specs.Prelude.{◌≡◌, [], ◌∷◌, ℕ, ◌+◌, ◌≤◌, ◌<◌, ℤ, pos, negsuc, get_or, take}
use Rattle.std.proofs.Math.Path.{refl, ap}
use Rattle.std.proofs.Common.{◌∙◌, inr, arith, drop-cons, le-leb}
use Rattle.model.specs.declared.Edge.TheVariants.{Stop}
use Rattle.model.specs.declared.DrawMode.TheVariants.{Or}
use Rattle.model.specs.Geometry.{base}
use Rattle.model.specs.Bits.{bit_at}
use Rattle.model.specs.Pixels.{bit, on_screen, draw as drawPixels, seen}
use Rattle.model.specs.Rects.{none, inside, is_empty, join, cut, lowered}
use Rattle.model.specs.Memory.{window}
use Rattle.model.specs.Refusals.{SOURCE, refusal, ruled}
use Rattle.model.specs.Marks.{join_owed, within, owes, drawn_on}
use Rattle.model.specs.Bitmaps.{paint_op, source_fits, visible, visible_rect, painted_line, painted_lines, bitmap as bitmapDrawing}
use Rattle.model.specs.Points.{point_op, point_rect, point as pointDrawing}
use Rattle.model.specs.Lines.{is_unknown, run_op, pixel_run, clamped, stopped, edge_of, horizontal, owed_by, horizontal_line, pixel_column, vertical, vertical_line, stepped, next_error, slope, sloped, sloped_line, line as lineDrawing}
use Rattle.model.specs.Boxes.{box_rows, filled_box, outline, box_of, box as boxDrawing}
use Rattle.model.specs.Ellipses.{start, moves, advanced, turns, turned, x_step, y_step, part, x_parts, y_parts, step, step_parts, ended, parts_from, steps_from, parts, steps, corners, chord, chords, part_writes, parts_writes, wraps, ellipse_mark, ellipse_drawn, is_point, is_nothing, ellipse as ellipseDrawing, radii_fit, steps_fit}
use Rattle.model.specs.Shapes.{point, line, box, circle, bitmap}
use Rattle.model.specs.Calls.{draw, Lent, lent, Outcome, answered, refusals, drawing_with, done, refused, outcome}
use Rattle.laws.specs.Memory.{window_back}
use Rattle.laws.specs.Calls.{own_decide}
use Rattle.laws.specs.Updates.{unmarked}
use Rattle.pictures.specs.Picture.{rect, nothing, first, last, down_from, sets, clears, inverts, graphics_in, Unmarked, Drew, Picture, EdgePicture}
use Rattle.pictures.specs.Writes.{hits, made, alike, names, all_of, pictured}
use Rattle.pictures.specs.Drawings.{passing, screen_fits, entered, done_on, drew_as, drew}

-- ---- points

pub point_off : (mode : ℕ) → mode ≤ 3 → (l : Lent) → Unmarked l → outcome base (draw (point 160 0 mode)) l ≡ answered 0 [] l
unfolding done drawing_with drawn_on pointDrawing point_rect on_screen seen drawPixels owes within answered
point_off mode h l u =
    done_on l u (draw (point 160 0 mode)) refl (le-leb mode 3 h, tt)
    ∙ (λ i. answered 0 [] (lent (unmarked base l.rec (passing l u) i) (window_back (graphics_in l) 1600 l.memory (screen_fits l u) i) l.panel))

pub point_unknown : Picture (draw (point 5 5 3)) [] (rect 5 5 6 6) (first (rect 5 5 6 6))
unfolding pointDrawing point_rect point_op on_screen seen owes within inside join_owed join is_empty cut pictured hits made alike all_of names
point_unknown l u = drew l u (point 5 5 3) refl (refl, tt) (inr (omega arith)) refl refl refl

pub line_clamped : EdgePicture 0 (draw (line 200 90 210 90 1)) (sets 159 79 ∷ []) (rect 200 90 211 91) (last (rect 159 79 160 80))
unfolding lineDrawing edge_of horizontal_line horizontal clamped owed_by pixel_run run_op lowered on_screen seen owes within inside join_owed join is_empty cut pictured hits made alike all_of names
line_clamped l u e = drew l u (line 200 90 210 90 1) e (refl, tt) (inr (omega arith)) refl refl refl

pub line_beyond : EdgePicture 1 (draw (line 200 90 210 90 1)) [] (rect 200 90 211 91) nothing
unfolding lineDrawing edge_of horizontal_line horizontal stopped owed_by pixel_run run_op on_screen seen owes within inside join_owed join is_empty cut pictured hits made alike all_of names
line_beyond l u e = drew l u (line 200 90 210 90 1) e (refl, tt) (inr (omega arith)) refl refl refl

pub line_cut : EdgePicture 1 (draw (line 150 79 170 79 1))
    (sets 150 79 ∷ sets 151 79 ∷ sets 152 79 ∷ sets 153 79 ∷ sets 154 79 ∷ sets 155 79 ∷ sets 156 79 ∷ sets 157 79 ∷ sets 158 79 ∷ sets 159 79 ∷ [])
    (rect 150 79 171 80) (last (rect 150 79 160 80))
unfolding lineDrawing edge_of horizontal_line horizontal stopped owed_by pixel_run run_op on_screen seen owes within inside join_owed join is_empty cut pictured hits made alike all_of names
-- its left and right as numbers: in `line` they are a minimum and a maximum, worked out again for each pixel
line_cut l u e = drew_as l u (line 150 79 170 79 1) (horizontal_line 20 80 Stop 150 170 79 Or) refl e (refl, tt) (inr (omega arith)) refl refl refl

-- over a band's edge
pub line_down : Picture (draw (line 3 14 3 17 1)) (sets 3 14 ∷ sets 3 15 ∷ sets 3 16 ∷ sets 3 17 ∷ []) (rect 3 14 4 18) (rect 3 14 4 16 ∷ rect 3 16 4 18 ∷ none ∷ none ∷ none ∷ [])
unfolding lineDrawing is_unknown vertical_line vertical pixel_column point_op on_screen seen owes within inside join_owed join is_empty cut pictured hits made alike all_of names
line_down l u = drew l u (line 3 14 3 17 1) refl (refl, tt) (inr (omega arith)) refl refl refl

pub line_sloped : Picture (draw (line 0 0 2 1 1)) (sets 0 0 ∷ sets 1 0 ∷ sets 2 1 ∷ []) (rect 0 0 3 2) (first (rect 0 0 3 2))
unfolding lineDrawing is_unknown sloped_line sloped slope stepped next_error point_op on_screen seen owes within inside join_owed join is_empty cut pictured hits made alike all_of names
line_sloped l u = drew l u (line 0 0 2 1 1) refl (refl, tt) (inr (omega arith)) refl refl refl

-- ---- boxes

pub box_past_bottom : EdgePicture 0 (draw (box 0 78 7 80 1 2))
    (inverts 0 78 ∷ inverts 1 78 ∷ inverts 2 78 ∷ inverts 3 78 ∷ inverts 4 78 ∷ inverts 5 78 ∷ inverts 6 78 ∷ inverts 7 78 ∷ [])
    (rect 0 78 8 81) (last (rect 0 78 8 80))
unfolding boxDrawing box_of edge_of filled_box box_rows horizontal clamped owed_by pixel_run run_op lowered on_screen seen owes within inside join_owed join is_empty cut pictured hits made alike all_of names
box_past_bottom l u e = drew l u (box 0 78 7 80 1 2) e (refl, tt) (inr (omega arith)) refl refl refl

pub box_cut : EdgePicture 1 (draw (box 0 78 7 80 1 2))
    (inverts 0 78 ∷ inverts 1 78 ∷ inverts 2 78 ∷ inverts 3 78 ∷ inverts 4 78 ∷ inverts 5 78 ∷ inverts 6 78 ∷ inverts 7 78
    ∷ inverts 0 79 ∷ inverts 1 79 ∷ inverts 2 79 ∷ inverts 3 79 ∷ inverts 4 79 ∷ inverts 5 79 ∷ inverts 6 79 ∷ inverts 7 79 ∷ [])
    (rect 0 78 8 81) (last (rect 0 78 8 80))
unfolding boxDrawing box_of edge_of filled_box box_rows horizontal stopped owed_by pixel_run run_op on_screen seen owes within inside join_owed join is_empty cut pictured hits made alike all_of names
box_cut l u e = drew l u (box 0 78 7 80 1 2) e (refl, tt) (inr (omega arith)) refl refl refl

-- an outline past the right lower corner
pub outline_cut : EdgePicture 1 (draw (box 158 78 161 81 0 1)) (sets 158 78 ∷ sets 159 78 ∷ sets 158 79 ∷ []) (rect 158 78 162 82) (last (rect 158 78 160 80))
unfolding boxDrawing box_of edge_of outline is_unknown horizontal stopped vertical pixel_column point_op owed_by pixel_run run_op on_screen seen owes within inside join_owed join is_empty cut pictured hits made alike all_of names
outline_cut l u e = drew l u (box 158 78 161 81 0 1) e (refl, tt) (inr (omega arith)) refl refl refl

-- ---- circles

pub circle_parts : parts 2 2 ≡ part 2 0 ∷ part 2 1 ∷ part 2 2 ∷ part 0 2 ∷ []
unfolding parts parts_from start step step_parts x_step y_step x_parts y_parts advanced moves turns turned ended
circle_parts = refl

pub circle_steps : steps 2 2 ≡ 4
unfolding steps steps_from start step x_step y_step advanced moves turns turned ended
circle_steps = refl

-- its parts' corners
pub circle-two : Picture (draw (circle 10 10 2 0 1))
    (sets 8 10 ∷ sets 12 10 ∷ sets 8 9 ∷ sets 12 9 ∷ sets 8 11 ∷ sets 12 11 ∷ sets 8 8 ∷ sets 12 8 ∷ sets 8 12 ∷ sets 12 12 ∷ sets 10 8 ∷ sets 10 12 ∷ [])
    (rect 8 8 160 80) (down_from 8 8 160)
unfolding radii_fit steps_fit is_point is_nothing is_unknown ellipseDrawing ellipse_drawn ellipse_mark wraps parts_writes part_writes corners steps steps_from parts parts_from start step step_parts x_step y_step x_parts y_parts advanced moves turns turned ended point_op on_screen seen owes within inside join_owed join is_empty cut pictured hits made alike all_of names
circle-two l u = drew l u (circle 10 10 2 0 1) refl (refl, (refl, (refl, tt))) (inr (omega arith)) refl refl refl

pub circle_one : Picture (draw (circle 10 10 1 0 1)) (sets 9 10 ∷ sets 11 10 ∷ []) (rect 9 9 160 80) (down_from 9 9 160)
unfolding radii_fit steps_fit is_point is_nothing is_unknown ellipseDrawing ellipse_drawn ellipse_mark wraps parts_writes part_writes corners steps steps_from parts parts_from start step step_parts x_step y_step x_parts y_parts advanced moves turns turned ended point_op on_screen seen owes within inside join_owed join is_empty cut pictured hits made alike all_of names
circle_one l u = drew l u (circle 10 10 1 0 1) refl (refl, (refl, (refl, tt))) (inr (omega arith)) refl refl refl

pub disc_clamped : EdgePicture 0 (draw (circle 162 10 2 1 1)) (sets 159 8 ∷ sets 159 9 ∷ sets 159 10 ∷ sets 159 11 ∷ sets 159 12 ∷ []) (rect 160 8 165 80) (down_from 159 8 160)
unfolding radii_fit steps_fit is_point is_nothing is_unknown ellipseDrawing ellipse_drawn ellipse_mark wraps parts_writes part_writes chords chord edge_of horizontal clamped owed_by pixel_run run_op lowered steps steps_from parts parts_from start step step_parts x_step y_step x_parts y_parts advanced moves turns turned ended on_screen seen owes within inside join_owed join is_empty cut pictured hits made alike all_of names
disc_clamped l u e = drew l u (circle 162 10 2 1 1) e (refl, (refl, (refl, tt))) (inr (omega arith)) refl refl refl

pub disc_beyond : EdgePicture 1 (draw (circle 162 10 2 1 1)) [] (rect 160 8 165 80) nothing
unfolding radii_fit steps_fit is_point is_nothing is_unknown ellipseDrawing ellipse_drawn ellipse_mark wraps parts_writes part_writes chords chord edge_of horizontal stopped owed_by pixel_run run_op steps steps_from parts parts_from start step step_parts x_step y_step x_parts y_parts advanced moves turns turned ended on_screen seen owes within inside join_owed join is_empty cut pictured hits made alike all_of names
disc_beyond l u e = drew l u (circle 162 10 2 1 1) e (refl, (refl, (refl, tt))) (inr (omega arith)) refl refl refl

-- ---- bitmaps: one source byte clipped at the left edge, and the last address that SOURCE lets pass

-- the pixels are the byte's last seven bits
pub bitmap_clipped : (a : ℕ) → a < 65536 → (l : Lent) → Unmarked l → get_or l.memory a 0 ≡ 0x81
    → Drew l (clears 0 0 ∷ clears 1 0 ∷ clears 2 0 ∷ clears 3 0 ∷ clears 4 0 ∷ clears 5 0 ∷ sets 6 0 ∷ []) (rect 0 0 7 1) (first (rect 0 0 7 1))
    (outcome base (draw (bitmap a (negsuc 0) (pos 0) 8 1 0)) l)
unfolding window source_fits bitmapDrawing visible visible_rect painted_lines painted_line paint_op bit bit_at on_screen seen owes within inside join_owed join is_empty cut pictured hits made alike all_of names
bitmap_clipped a h l u e =
    let source : window a 1 l.memory ≡ 0x81 ∷ [] = ap (take 1) (drop-cons l.memory a 0 (omega (arith, u.memory))) ∙ ap (λ (b : ℕ). b ∷ []) e in
    drew l u (bitmap a (negsuc 0) (pos 0) 8 1 0) refl (refl, (le-leb (a + 1) 65536 (omega arith), tt)) (inr (omega arith)) refl refl (rw source refl)

module _ (x y : ℤ) (mode : ℕ) (h : mode ≤ 4) (l : Lent) (u : Unmarked l) where
  pub source_refused : outcome base (draw (bitmap 65535 x y 9 1 mode)) l ≡ answered SOURCE [] l
  unfolding outcome ruled refused refusal source_fits
  source_refused =
      let c = draw (bitmap 65535 x y 9 1 mode) in
      let t : refusal (refusals base c l) ≡ SOURCE = own_decide base c l (entered l u c refl) ∙ rw (le-leb mode 4 h) in
      ap (λ (n : ℕ). ruled n (refused c l) (done base c l)) t

  pub source_accepted : (outcome base (draw (bitmap 65534 x y 9 1 mode)) l).code ≡ 0
  unfolding source_fits done answered
  source_accepted = ap (λ (o : Outcome). o.code) (done_on l u (draw (bitmap 65534 x y 9 1 mode)) refl (le-leb mode 4 h, (refl, tt)))
