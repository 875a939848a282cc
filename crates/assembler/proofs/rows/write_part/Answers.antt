use Rattle.std.proofs.Common.{◌≡◌, ◌+◌, ◌-◌, ◌*◌, ◌/◌, ◌%◌, ◌<◌, ◌≤◌, ◌⊎◌, ℕ, List, length, get_or, take, drop, refl, sym, ap, ap₂, ◌∙◌, arith, inl, inr}
use Rattle.rc_base.specs.Cluster.Tiles.{boundary_of, tile_column, tile_row}
use Rattle.rc_base.specs.Drawing.Images.{rgb_of}
use Rattle.rc_base.specs.Drawing.Serial.{blank_pixel}
use Rattle.rc_base.specs.declared.window.Pixel.{Pixel}
use Rattle.plain_lemmas.proofs.Places.{next_row}
use Rattle.assembler.specs.Parts.{part_size, tile_height, tile_width}
use Rattle.assembler.proofs.Lines.{all_lines, area_most, line_ends, line_from, line_more, next_line, no_line}
use Rattle.assembler.proofs.rows.write_part.Goals as goal

pub loop-k-init : goal.loop-k-init
loop-k-init c =
    let l = c.args.layout.now in
    let tile = c.args.tile in
    let start = c.first_pixel-from.ensures
    ∙ ap (λ (n : ℕ). (l.height - boundary_of l.height l.rows (tile / n + 1)) * l.width + boundary_of l.width l.columns (tile % n)) c.from-columns.ensures in
    let z : l.height - boundary_of l.height l.rows (tile_row l tile + 1) ≡ l.height - boundary_of l.height l.rows (tile_row l tile + 1) + 0 = omega arith in
    record {
      size = refl;
      from = ap (λ (n : ℕ). 3 * n) start ∙ ap (λ (n : ℕ). 3 * (n * l.width + boundary_of l.width l.columns (tile_column l tile))) z;
      done = no_line l tile c.requires.columns c.requires.rows c.requires.tile c.args.part.now.pixels c.args.rgb.now;
    }

pub line_of-requires : goal.line_of-requires
line_of-requires c =
    let l = c.args.layout.now in
    let tile = c.args.tile in
    let wide : c.size_of_part-wide.result ≡ tile_width l tile = c.size_of_part-wide.ensures ∙ ap (λ (n : ℕ). part_size l.width l.columns (tile % n)) c.from-columns.ensures in
    let high : c.size_of_part-high.result ≡ tile_height l tile = c.size_of_part-high.ensures ∙ ap (λ (n : ℕ). part_size l.height l.rows (tile / n)) c.from-columns.ensures in
    let all : c.size_of_part-high.result * c.size_of_part-wide.result ≡ tile_height l tile * tile_width l tile = ap₂ (λ (a b : ℕ). a * b) high wide in
    let line = next_row c.size_of_part-wide.result (c.size_of_part-high.result - 1 - c.loop-k.k) c.size_of_part-high.result (omega arith) in
    omega (arith, all, line, c.requires.pixels)

pub write_run-requires : goal.write_run-requires
write_run-requires c =
    let l = c.args.layout.now in
    let tile = c.args.tile in
    let wide : c.size_of_part-wide.result ≡ tile_width l tile = c.size_of_part-wide.ensures ∙ ap (λ (n : ℕ). part_size l.width l.columns (tile % n)) c.from-columns.ensures in
    let high : c.size_of_part-high.result ≡ tile_height l tile = c.size_of_part-high.ensures ∙ ap (λ (n : ℕ). part_size l.height l.rows (tile / n)) c.from-columns.ensures in
    let ends = line_ends l tile c.requires.columns c.requires.rows c.requires.tile c.loop-k.k (omega (arith, high, c.loop-k-test.true)) in
    record { room = omega (arith, ends, wide, c.loop-k.invariant.from, c.loop-k.invariant.size, c.requires.room, c.line_of.ensures.size) }

pub overflow_add-from : goal.overflow_add-from
overflow_add-from c =
    let l = c.args.layout.now in
    let tile = c.args.tile in
    let high : c.size_of_part-high.result ≡ tile_height l tile = c.size_of_part-high.ensures ∙ ap (λ (n : ℕ). part_size l.height l.rows (tile / n)) c.from-columns.ensures in
    let ends = line_ends l tile c.requires.columns c.requires.rows c.requires.tile c.loop-k.k (omega (arith, high, c.loop-k-test.true)) in
    let most : l.width * l.height ≤ 65535 * 65535 = area_most l.width l.height 65535 (omega arith) (omega arith) in
    omega (arith, ends, most, c.loop-k.invariant.from, c.from-width.ensures)

pub loop-k-preserved : goal.loop-k-preserved
loop-k-preserved c =
    let l = c.args.layout.now in
    let tile = c.args.tile in
    let k = c.loop-k.k in
    let new = c.write_run.new.rgb in
    let pixels = c.args.part.now.pixels in
    let wide : c.size_of_part-wide.result ≡ tile_width l tile = c.size_of_part-wide.ensures ∙ ap (λ (n : ℕ). part_size l.width l.columns (tile % n)) c.from-columns.ensures in
    let high : c.size_of_part-high.result ≡ tile_height l tile = c.size_of_part-high.ensures ∙ ap (λ (n : ℕ). part_size l.height l.rows (tile / n)) c.from-columns.ensures in
    let from : c.loop-k.from ≡ line_from l tile k = c.loop-k.invariant.from in
    let size : length c.line_of.result.now ≡ tile_width l tile = c.line_of.ensures.size ∙ wide in
    let next = next_line (l.height - boundary_of l.height l.rows (tile_row l tile + 1)) l.width (boundary_of l.width l.columns (tile_column l tile)) k in
    let run : (i : ℕ) → i < tile_width l tile → take 3 (drop (line_from l tile k + 3 * i) new)
    ≡ rgb_of (get_or (take (tile_width l tile) (drop ((tile_height l tile - 1 - k) * tile_width l tile) pixels)) i blank_pixel) = λ i low.
    ap (λ (n : ℕ). take 3 (drop (n + 3 * i) new)) (sym from)
    ∙ c.write_run.ensures.run i (omega (arith, size, low))
    ∙ ap (λ (ps : List Pixel). rgb_of (get_or ps i blank_pixel)) (c.line_of.ensures.run ∙ ap₂ (λ (w h : ℕ). take w (drop ((h - 1 - k) * w) pixels)) wide high) in
    let stays : (at : ℕ) → (at + 3 ≤ line_from l tile k) ⊎ (line_from l tile k + 3 * tile_width l tile ≤ at) → take 3 (drop at new) ≡ take 3 (drop at c.loop-k.rgb) = λ at beside.
    c.write_run.ensures.others at (elim beside [ inl before ↦ inl (omega (arith, before, from)) | inr behind ↦ inr (omega (arith, behind, from, size)) ]) in
    record {
      size = c.write_run.ensures.size ∙ c.loop-k.invariant.size;
      from = ap₂ (λ (a b : ℕ). a + 3 * b) from c.from-width.ensures ∙ next;
      done = line_more l tile c.requires.columns c.requires.rows c.requires.tile pixels c.args.rgb.now c.loop-k.rgb new k (omega (arith, high, c.loop-k-test.true)) c.requires.pixels
          run stays c.loop-k.invariant.done;
    }

pub returns-clause-drawn : goal.returns-clause-drawn
returns-clause-drawn c = λ x y has.
    let l = c.args.layout.now in
    let tile = c.args.tile in
    let high : c.size_of_part-high.result ≡ tile_height l tile = c.size_of_part-high.ensures ∙ ap (λ (n : ℕ). part_size l.height l.rows (tile / n)) c.from-columns.ensures in
    all_lines l tile c.requires.columns c.requires.rows c.requires.tile c.args.part.now.pixels c.args.rgb.now c.loop-k.rgb c.loop-k.k
    (omega (arith, high, c.loop-k-test.false)) c.loop-k.invariant.done x y has
