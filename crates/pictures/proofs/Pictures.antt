-- The known pictures, each by its name.
use Rattle.std.specs.Prelude.{refl}
use Rattle.model.specs.Codes.{in_row, index_in, emoji_index, gb_index}
use Rattle.laws.specs.Glyphs.{empty_row}
use Rattle.pictures.specs.Drawings.{clear_unmarked, clear_edge}
use Rattle.pictures.proofs.Shapes.{point_off, point_unknown, line_clamped, line_beyond, line_cut, line_down, line_sloped, box_past_bottom, box_cut, outline_cut, disc_clamped, disc_beyond, circle_parts, circle_steps, circle-two, circle_one, bitmap_clipped, source_refused, source_accepted}
use Rattle.pictures.proofs.BoxRows.{box_row}
use Rattle.pictures.proofs.ScriptTexts.{point_send, send_point, send_points}
use Rattle.pictures.proofs.EmptyRows.{one_pair, unassigned_codes, unassigned_glyph, codes_shown, glyph_shown}
use Rattle.pictures.specs.Pictures.{KnownPictures}

pub known_pictures : KnownPictures
unfolding emoji_index index_in in_row gb_index
known_pictures = record {
  start = clear_unmarked;
  start_edge = clear_edge;
  point_off = point_off;
  point_unknown = point_unknown;
  line_clamped = line_clamped;
  line_sloped = line_sloped;
  box_row_79 = box_row;
  box_row_78 = box_past_bottom;
  circle_parts = circle_parts;
  circle_steps = circle_steps;
  circle_corners = circle-two;
  circle_one = circle_one;
  bitmap_clipped = bitmap_clipped;
  source_refused = source_refused;
  source_accepted = source_accepted;
  codes_V1 = (refl, refl);
  codes_V2 = (refl, refl);
  point_send = point_send;
  send_point = send_point;
  line_down = line_down;
  send_points = send_points;
  line_beyond = line_beyond;
  line_cut = line_cut;
  box_cut = box_cut;
  outline_cut = outline_cut;
  disc_beyond = disc_beyond;
  disc_clamped = disc_clamped;
  codes_GB = (refl, refl, refl, refl);
  empty_rows = empty_row;
  one_pair = one_pair;
  unassigned_codes = unassigned_codes;
  unassigned_glyph = unassigned_glyph;
  empty_row_codes = codes_shown;
  empty_row_glyph = glyph_shown;
}
