-- The parts of a picture, one behind the other.
use Rattle.std.proofs.Common.{◌≡◌, ◌<◌, ◌≤◌, ℕ, ◌+◌, ◌*◌, ◌^◌, List, ◌++◌, length, get_or, take, drop, codes, sym, ◌∙◌, ap, arith, append_assoc}
use Rattle.std.specs.Prelude.{Result, Ok, Err, is_ok, OnOk, if◌then◌else◌}
use Rattle.std.proofs.lemmas.List.{append-nil, drop_all}
use Rattle.dlmalloc_chunks.specs.declared.extent.Extent.{Extent}
use Rattle.heap_history.specs.declared.history.History.{History}
use Rattle.paging_core.specs.Pool.{free_count}
use Rattle.machine_model.specs.declared.region.Region.{Region}
use Rattle.machine_model.specs.State.{State, total_pages}
use Rattle.machine_model.specs.Place.{all_regions}
use Rattle.machine_model.specs.Tables.{free_frames}
use Rattle.paged_systems.specs.System.{paged}
use Rattle.kernel_heap.specs.Machine.{system_of}
use Rattle.kernel_heap.specs.declared.machine.Machine.{Machine}
use Rattle.paged_systems.specs.declared.paged_system.PagedSystem.{PagedSystem}
use Rattle.heap_program.specs.Progress.{IsAt}
use Rattle.heap_time.specs.Time.{time_text, time_height}
use Rattle.heap_map.specs.Map.{map_text, lines_number, below_lines}
use Rattle.heap_picture.specs.Blocks.{blocks_at_end}
use Rattle.heap_picture.specs.Large.{larges_in}
use Rattle.heap_picture.specs.Lines.{region_lines, most_pages}
use Rattle.heap_picture.specs.Regions.{region_line_words, pages_bar_text, larges_text, region_line_text, region_lines_text, lines_shown, more_regions_text, regions_list_text, regions_heading, regions_text}
use Rattle.heap_picture.specs.Picture.{map_document, head_text}
use Rattle.heap_picture.specs.Timing.{timing_of}
use Rattle.heap_picture.proofs.Joins.{rest_at}

-- what a text is after bytes were put at its end
pub pushed : {T E : Type 0} (r : Result T E) (new after before : List ℕ) → new ≡ (if is_ok r then after else before) → OnOk r (new ≡ after)
pushed (Ok value) new after before is = is
pushed (Err error) new after before is = tt

-- each page of a region has a frame, and there are fewer than 2 ^ 32 frames
pub few_pages : (system : PagedSystem) (regions : List Region) → regions ≡ (paged system).regions → total_pages regions < 2 ^ 32
few_pages system regions is =
    let count = system.kept.mapped.count in
    let few = system.kept.mapped.few_frames in
    let same = ap total_pages is in
    omega (arith, count, few, same)

-- the words of a line, its bar, and its large pages
pub line_whole : (large : List ℕ) (y most : ℕ) (line : Region) (larges : ℕ) (old one two new : List ℕ) →
    larges ≡ larges_in large line → one ≡ old ++ region_line_words y line → two ≡ one ++ pages_bar_text y most line →
    new ≡ two ++ larges_text y most line.pages larges → new ≡ old ++ region_line_text large most y line
unfolding region_line_text
line_whole large y most line larges old one two new are first second last =
    let words = region_line_words y line in
    let bar = pages_bar_text y most line in
    let more = larges_text y most line.pages larges in
    last
    ∙ ap (λ (t : List ℕ). t ++ more) (second ∙ ap (λ (t : List ℕ). t ++ bar) first)
    ∙ append_assoc (old ++ words) bar more
    ∙ append_assoc old words (bar ++ more)
    ∙ ap (λ (n : ℕ). old ++ (words ++ (bar ++ larges_text y most line.pages n))) are

lines_more : (large : List ℕ) (most y : ℕ) (lines : List Region) (i : ℕ) (d : Region) → i < length lines →
    region_lines_text large most y (drop i lines) ≡ region_line_text large most y (get_or lines i d) ++ region_lines_text
    large most (y + 25) (drop (i + 1) lines)
lines_more large most y lines i d within = ap (region_lines_text large most y) (rest_at lines i d within)

-- the text with one line more, and the rest below it
pub lines_put : (large : List ℕ) (most y y' : ℕ) (lines : List Region) (i : ℕ) (d : Region) (out new text : List ℕ) →
    i < length lines → y' ≡ y + 25 → new ≡ out ++ region_line_text large most y (get_or lines i d) →
    out ++ region_lines_text large most y (drop i lines) ≡ text → new ++ region_lines_text large most y'
    (drop (i + 1) lines) ≡ text
lines_put large most y y' lines i d out new text within below put whole =
    let line = region_line_text large most y (get_or lines i d) in
    ap (λ (t : List ℕ). t ++ region_lines_text large most y' (drop (i + 1) lines)) put
    ∙ ap (λ (n : ℕ). (out ++ line) ++ region_lines_text large most n (drop (i + 1) lines)) below
    ∙ append_assoc out line (region_lines_text large most (y + 25) (drop (i + 1) lines))
    ∙ ap (λ (t : List ℕ). out ++ t) (sym (lines_more large most y lines i d within))
    ∙ whole

-- no line is below the last one
pub lines_end : (large : List ℕ) (most y : ℕ) (lines : List Region) (i : ℕ) (out text : List ℕ) → length lines ≤ i →
    out ++ region_lines_text large most y (drop i lines) ≡ text → out ≡ text
lines_end large most y lines i out text all is =
    sym (ap (λ (rs : List Region). out ++ region_lines_text large most y rs) (drop_all i lines all) ∙ append-nil out) ∙ is

-- the lines that have room, and the others counted
pub list_whole : (large : List ℕ) (y most shown : ℕ) (lines front back : List Region) (old one new : List ℕ) →
    most ≡ most_pages lines → shown ≡ lines_shown (length lines) → front ≡ take shown lines → back ≡ drop shown lines →
    one ≡ old ++ region_lines_text large most y front → new ≡ one ++ more_regions_text (y + 150) back → new ≡ old ++ regions_list_text large y lines
unfolding regions_list_text
list_whole large y most shown lines front back old one new most_is shown_is front_is back_is first last =
    last
    ∙ ap (λ (t : List ℕ). t ++ more_regions_text (y + 150) back) first
    ∙ append_assoc old (region_lines_text large most y front) (more_regions_text (y + 150) back)
    ∙ ap (λ (rs : List Region). old ++ (region_lines_text large most y rs ++ more_regions_text (y + 150) back)) front_is
    ∙ ap (λ (rs : List Region). old ++ (region_lines_text large most y (take shown lines) ++ more_regions_text (y + 150)
    rs)) back_is
    ∙ ap (λ (n : ℕ). old ++ (region_lines_text large n y (take shown lines) ++ more_regions_text (y + 150)
    (drop shown lines))) most_is
    ∙ ap (λ (n : ℕ). old ++ (region_lines_text large (most_pages lines) y (take n lines) ++ more_regions_text (y + 150) (drop n lines))) shown_is

-- the heading, and the lines, of what a machine tells of its system
pub regions_whole : (machine : Machine) (s : State) (y : ℕ) (system : PagedSystem) (list lines : List Region)
    (frames tables : ℕ) (old one new : List ℕ) → IsAt machine s →
    system ≡ system_of machine.heap → list ≡ (paged system).regions → lines ≡ region_lines list →
    frames ≡ free_count (paged system).free → tables ≡ (paged system).tables →
    one ≡ old ++ regions_heading y frames tables → new ≡ one ++ regions_list_text s.large (y + 26) lines → new ≡ old ++ regions_text y s
unfolding regions_text
regions_whole machine s y system list lines frames tables old one new at is listed lines_are frames_are tables_are first last =
    let regions : list ≡ all_regions s = listed ∙ ap (λ (p : PagedSystem). (paged p).regions) is ∙ at.stands.regions in
    let free : frames ≡ free_frames s = frames_are ∙ ap (λ (p : PagedSystem). free_count (paged p).free) is ∙ at.stands.free_frames in
    let count : tables ≡ 1 + length s.tables = tables_are ∙ ap (λ (p : PagedSystem). (paged p).tables) is ∙ at.stands.table_count in
    last
    ∙ ap (λ (t : List ℕ). t ++ regions_list_text s.large (y + 26) lines) first
    ∙ append_assoc old (regions_heading y frames tables) (regions_list_text s.large (y + 26) lines)
    ∙ ap (λ (rs : List Region). old ++ (regions_heading y frames tables ++ regions_list_text s.large (y + 26) rs)) (lines_are ∙ ap region_lines regions)
    ∙ ap (λ (n : ℕ). old ++ (regions_heading y n tables ++ regions_list_text s.large (y + 26)
    (region_lines (all_regions s)))) free
    ∙ ap (λ (n : ℕ). old ++ (regions_heading y (free_frames s) n ++ regions_list_text s.large (y + 26) (region_lines (all_regions s)))) count

-- the head, the map, the regions, and the end of the document
pub picture_whole : (style : List ℕ) (s : State) (live peak : ℕ) (extents : List Extent) (history : History) (lines : ℕ)
    (old one two three new : List ℕ) → lines ≡ lines_number extents →
    one ≡ old ++ head_text style (194 + 23 * lines + 210) → two ≡ one ++ map_text (blocks_at_end history) live peak
    extents → three ≡ two ++ regions_text (194 + 23 * lines) s → new ≡ three ++ codes "</svg>\n" →
    new ≡ old ++ map_document style s live peak extents history
unfolding map_document
picture_whole style s live peak extents history lines old one two three new are first second third last =
    let head = head_text style (194 + 23 * lines + 210) in
    let map = map_text (blocks_at_end history) live peak extents in
    let regions = regions_text (194 + 23 * lines) s in
    let end = codes "</svg>\n" in
    last
    ∙ ap (λ (t : List ℕ). t ++ end) (third ∙ ap (λ (t : List ℕ). t ++ regions) (second ∙ ap (λ (t : List ℕ). t ++ map) first))
    ∙ append_assoc ((old ++ head) ++ map) regions end
    ∙ append_assoc (old ++ head) map (regions ++ end)
    ∙ append_assoc old head (map ++ (regions ++ end))
    ∙ ap (λ (n : ℕ). old ++ (head_text style (below_lines n + 210) ++ (map ++ (regions_text (below_lines n) s ++ end)))) are

-- the head, the drawing of a run, and the end of the document
pub timing_whole : (style : List ℕ) (history : History) (height : ℕ) (old one two new : List ℕ) →
    height ≡ time_height history → one ≡ old ++ head_text style height → two ≡ one ++ time_text history →
    new ≡ two ++ codes "</svg>\n" →
    new ≡ old ++ timing_of style history
unfolding timing_of
timing_whole style history height old one two new height_is first second last =
    let end = codes "</svg>\n" in
    let head = head_text style height in
    let drawing = time_text history in
    last
    ∙ ap (λ (t : List ℕ). t ++ end) (second ∙ ap (λ (t : List ℕ). t ++ drawing) first)
    ∙ append_assoc (old ++ head) drawing end
    ∙ append_assoc old head (drawing ++ end)
    ∙ ap (λ (n : ℕ). old ++ (head_text style n ++ (drawing ++ end))) height_is
