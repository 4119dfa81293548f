-- Worked values: the definitions computed on short inputs.
use Rattle.std.proofs.Common.{◌≡◌, ℕ, true, false, [], ◌∷◌, ◌++◌, map, codes, refl, Some, None, lit<, lit≤}
use Rattle.dlmalloc_chunks.specs.declared.extent.Kind.TheVariants.{Used, Free as Binned, Victim, Top, Record, Foot}
use Rattle.paging_core.specs.declared.processor_access.AccessKind.TheVariants.{Read as Reading, Write as Writing, Fetch as Fetching}
use Rattle.machine_model.specs.declared.call.Call.TheVariants.{Malloc, Calloc, Realloc, CRealloc, Free, Write, Read, Map, Unmap, Probe, Trim, SetRate, SetGranularity, Reset, Extents}
use Rattle.machine_model.specs.declared.answer.Reply.TheVariants.{Block, Done, Bytes, Byte, Trimmed, Accepted, Released, Extents as Listed, Refused}
use Rattle.machine_model.specs.declared.answer.Refusal.TheVariants.{NoFrames, UnknownRegion, NotCanonical}
use Rattle.std.specs.Fmt.{digits}
use Rattle.hex.proofs.OnLiterals.{hex_on_literals}
use Rattle.machine_model.specs.Room.{heap_region}
use Rattle.machine_model.specs.State.{start}
use Rattle.call_lines.specs.Grammar.{item_of}
use Rattle.heap_program.specs.declared.arguments.Command.TheVariants.{Run, Generate}
use Rattle.kernel_heap.specs.Config.{IsGoodConfig}
use Rattle.heap_program.specs.Command.{default_config, config_of, named_command}
use Rattle.heap_program.specs.Generator.{drawn, first_state, pick, call_of_draws, drawn_call, drawn_thrice, numbers_given}
use Rattle.heap_program.specs.Lines.{items_of, lines_of}
use Rattle.heap_program.specs.Status.{status_text_of}
use Rattle.heap_program.specs.Text.{text_of, region_line, tally_line, end_text_of}

-- lines

lines-last : lines_of (codes "a\n\nb") ≡ codes "a" ∷ [] ∷ codes "b" ∷ []
lines-last = refl

items-short : items_of (codes "malloc 24\nmalloc  3\nmalloc 0x10 4096\ncalloc 0x1f\ncalloc 0 0\nmalloc 1 16 1") ≡ Some
    (Malloc 24 16) ∷ None ∷ Some (Malloc 16 4096) ∷ Some (Calloc 31 16) ∷ Some (Calloc 0 0) ∷ None ∷ []
unfolding items_of item_of
items-short = refl

items-sizes : items_of (codes "realloc 0 0x20\nc_realloc 1 2\nrealloc 0\nc_realloc 0 1 2") ≡ Some (Realloc 0 32) ∷ Some (CRealloc 1 2) ∷ None ∷ None ∷ []
unfolding items_of item_of
items-sizes = refl

items-bytes : items_of (codes "write 0 1 fF00\nwrite 0 1 f\nread 5 0 2\nread 5 0") ≡ Some (Write 0 1 (255 ∷ 0 ∷ [])) ∷ None ∷ Some (Read 5 0 2) ∷ None ∷ []
unfolding items_of item_of hex_on_literals
items-bytes = refl

items-free : items_of (codes "free 0\nfree 0x10\nfree\nfree 0 \nfree 0 0\nFree 0\n free 0") ≡ Some (Free 0) ∷ Some
    (Free 16) ∷ None ∷ None ∷ None ∷ None ∷ None ∷ []
unfolding items_of item_of
items-free = refl

items-extents : items_of (codes "extents\nextents \nextents 0") ≡ Some Extents ∷ None ∷ None ∷ []
unfolding items_of item_of
items-extents = refl

items-settings : items_of
    (codes "trim 0\ntrim\nrate 0x10\nrate 1 2\ngranularity 4096\ngranularity\nreset\nreset 0\nset_rate 1") ≡ Some
    (Trim 0) ∷ None ∷ Some (SetRate 16) ∷ None ∷ Some (SetGranularity 4096) ∷ None ∷ Some Reset ∷ None ∷ None ∷ []
unfolding items_of item_of
items-settings = refl

items-maps : items_of
    (codes
    "map 0x410000 1 rw--\nmap 4096 2 r-ux\nunmap 0x410000 1\nmap 0 1 rwux\nmap 0 1\nmap 0 1 w---\nmap 0 1 rw-\nmap 0 1 rux-\nmap 0 1 rw-- 0\nunmap 0\nunmap 0 1 rw--") ≡
    Some (Map 0x410000 1 (record { write = true; user = false; fetch = false }))
    ∷ Some (Map 4096 2 (record { write = false; user = true; fetch = true }))
    ∷ Some (Unmap 0x410000 1)
    ∷ Some (Map 0 1 (record { write = true; user = true; fetch = true }))
    ∷ None ∷ None ∷ None ∷ None ∷ None ∷ None ∷ None ∷ []
unfolding items_of item_of
items-maps = refl

items-probes : items_of
    (codes
    "probe 0x10 read\nprobe 16 write user\nprobe 0 fetch\nprobe 0 Read\nprobe 0\nprobe 0 read kernel\nprobe 0 read user user") ≡
    Some (Probe 16 Reading false) ∷ Some (Probe 16 Writing true) ∷ Some (Probe 0 Fetching false) ∷ None ∷ None ∷ None ∷ None ∷ []
unfolding items_of item_of
items-probes = refl

-- texts

text-bytes : text_of (record { reply = Bytes (0 ∷ 255 ∷ []); regions = None; large = None }) ≡ codes "bytes 00ff\n"
unfolding text_of hex_on_literals
text-bytes = refl

text-no_bytes : text_of (record { reply = Bytes []; regions = None; large = None }) ≡ codes "bytes\n"
unfolding text_of
text-no_bytes = refl

text-byte : text_of (record { reply = Byte 0; regions = None; large = None }) ≡ codes "byte 00\n"
unfolding text_of hex_on_literals
text-byte = refl

text-trimmed : text_of (record { reply = Trimmed true; regions = Some (heap_region 0x400000 1 ∷ []); large = None }) ≡ codes "trimmed true\nheap 0x400000+1\n"
unfolding text_of digits
text-trimmed = refl

text-not_trimmed : text_of (record { reply = Trimmed false; regions = None; large = None }) ≡ codes "trimmed false\n"
unfolding text_of
text-not_trimmed = refl

text-accepted : text_of (record { reply = Accepted true; regions = None; large = None }) ≡ codes "accepted true\n"
unfolding text_of
text-accepted = refl

text-not_accepted : text_of (record { reply = Accepted false; regions = None; large = None }) ≡ codes "accepted false\n"
unfolding text_of
text-not_accepted = refl

text-released : text_of (record { reply = Released 65536; regions = Some []; large = None }) ≡ codes "released 65536\nheap none\n"
unfolding text_of digits
text-released = refl

text-unknown_region : text_of (record { reply = Refused UnknownRegion; regions = None; large = None }) ≡ codes "refused unknown-region\n"
unfolding text_of
text-unknown_region = refl

text-not_canonical : text_of (record { reply = Refused NotCanonical; regions = None; large = None }) ≡ codes "refused not-canonical\n"
unfolding text_of
text-not_canonical = refl

text-block : text_of (record {
  reply = Block 2 0x40ffd0;
  regions = Some
      (heap_region 0x400000 16 ∷ heap_region 0x410000 16 ∷ []);
  large = None;
}) ≡ codes
    "block 2 0x40ffd0\nheap 0x400000+16 0x410000+16\n"
unfolding text_of digits
text-block = refl

text-extents : text_of (record {
  reply = Listed (record { at = 0x400000; size = 65440; kind = Used } ∷ record {
    at =
        0x40ffa0;
    size = 16;
    kind = Top;
  } ∷ record { at = 0x40ffb0; size = 80; kind = Foot } ∷ []);
  regions = None;
  large =
      None;
}) ≡ codes "extents used:0x400000+65440 top:0x40ffa0+16 foot:0x40ffb0+80\n"
unfolding text_of digits
text-extents = refl

text-other_extents : text_of (record {
  reply = Listed (record { at = 0; size = 32; kind = Binned } ∷ record {
    at = 32;
    size = 0;
    kind = Victim;
  } ∷ record { at = 255; size = 1; kind = Record } ∷ []);
  regions = None;
  large = None;
}) ≡ codes
    "extents free:0x0+32 victim:0x20+0 record:0xff+1\n"
unfolding text_of digits
text-other_extents = refl

text-no_extents : text_of (record { reply = Listed []; regions = None; large = None }) ≡ codes "extents\n"
unfolding text_of
text-no_extents = refl

text-large : text_of (record { reply = Done; regions = None; large = Some (0x800000 ∷ 0xa00000 ∷ []) }) ≡ codes "done\nlarge 0x800000 0xa00000\n"
unfolding text_of digits
text-large = refl

text-granted_large : text_of (record {
  reply = Block 0 0x400010;
  regions = Some (heap_region 0x400000 736 ∷ []);
  large =
      Some (0x400000 ∷ []);
}) ≡ codes "block 0 0x400010\nheap 0x400000+736\nlarge 0x400000\n"
unfolding text_of digits
text-granted_large = refl

text-none : text_of (record { reply = Refused NoFrames; regions = Some []; large = None }) ≡ codes "refused no-frames\nheap none\n"
unfolding text_of
text-none = refl

text-user_region : region_line (record {
  start = 0x410000;
  pages = 1;
  heap = false;
  rights =
      record { write = true; user = false; fetch = false };
}) ≡ codes "region 0x410000+1 user rw--\n"
unfolding digits
text-user_region = refl

text-tally : tally_line 10000 3794 2241 ≡ codes "calls 10000 blocks 3794 refused 2241\n"
unfolding digits
text-tally = refl

text-start : end_text_of (start default_config) ≡ codes "frames 1023 tables 1\n"
unfolding end_text_of digits
text-start = refl

-- commands

command-run : named_command (codes "run" ∷ []) ≡ Some (Run default_config)
command-run = refl

command-numbers : named_command (codes "run" ∷ codes "0x400000" ∷ codes "16" ∷ codes "65536" ∷ codes "4294967295" ∷ codes
    "0" ∷ []) ≡ Some (Run (record { base = 0x400000; pages = 16; granularity = 65536; frames = 4294967295; rate = 0 }))
command-numbers = refl

command-frames : config_of (codes "0x400000" ∷ codes "16" ∷ codes "65536" ∷ codes "4294967296" ∷ codes "0" ∷ []) ≡ None
command-frames = refl

command-four_numbers : config_of (codes "0x400000" ∷ codes "16" ∷ codes "65536" ∷ codes "1024" ∷ []) ≡ None
command-four_numbers = refl

command-no_number : config_of (codes "0x400000" ∷ codes "16" ∷ codes "65536" ∷ codes "1024" ∷ codes "-1" ∷ []) ≡ None
command-no_number = refl

command-gen : named_command (codes "gen" ∷ codes "0x7" ∷ codes "1000000" ∷ []) ≡ Some (Generate 7 1000000 default_config)
command-gen = refl

command-too_many : named_command (codes "gen" ∷ codes "7" ∷ codes "1000001" ∷ []) ≡ None
command-too_many = refl

command-no_count : named_command (codes "gen" ∷ codes "7" ∷ []) ≡ None
command-no_count = refl

-- a machine can be made from the default configuration
command-default : IsGoodConfig default_config
command-default = record {
  window = record { whole = refl; canonical = record { some = lit< tt; canonical = refl; one_half = refl }; after_first = lit≤ tt; before_last = lit≤ tt };
  granularity = ((16, refl), lit≤ tt);
  frames = lit< tt;
}

-- drawn calls

drawn-seed_1 : drawn (first_state 1) ≡ 0x40822041
unfolding drawn
drawn-seed_1 = refl

drawn-seed_0 : first_state 0 ≡ 1
drawn-seed_0 = refl

drawn-first : drawn_call 1 0 ≡ Malloc 1089 512
unfolding drawn_call call_of_draws drawn
drawn-first = refl

drawn-state : drawn_thrice 1 ≡ 0x9b1e842f6e862629
unfolding drawn_thrice drawn
drawn-state = refl

drawn-kinds : map (λ (a : ℕ). call_of_draws 100 a 5000 0x509) (8 ∷ 1 ∷ 2 ∷ 3 ∷ 4 ∷ 5 ∷ 6 ∷ 15 ∷ []) ≡ Malloc 904 16 ∷ Malloc
    904 512 ∷ Calloc 904 16 ∷ Realloc 94 904 ∷ Write 94 0 (136 ∷ []) ∷ Free 94 ∷ Free 94 ∷ Free 94 ∷ []
unfolding call_of_draws
drawn-kinds = refl

drawn-no_block : map (λ (a : ℕ). call_of_draws 0 a 5000 0x509) (2 ∷ 3 ∷ 7 ∷ []) ≡ Calloc 904 16 ∷ Malloc 904 16 ∷ Malloc 904 16 ∷ []
unfolding call_of_draws
drawn-no_block = refl

-- the last number that was given, the 64th before it, and the first of two
drawn-picks : map (λ (given : ℕ). pick given 0x3fff) (100 ∷ 64 ∷ 2 ∷ 1 ∷ []) ++ pick 100 0x4000 ∷ [] ≡ 36 ∷ 0 ∷ 0 ∷ 0 ∷ 99 ∷ []
drawn-picks = refl

-- a block that got another size has its number already
drawn-numbers : numbers_given (Malloc 8 16) (Block 0 0x400010) ∷ numbers_given (Calloc 8 16)
    (Block 1 0x400030) ∷ numbers_given (Realloc 0 9) (Block 0 0x400010) ∷ numbers_given (Malloc 8 16)
    (Refused NoFrames) ∷ [] ≡ 1 ∷ 1 ∷ 0 ∷ 0 ∷ []
drawn-numbers = refl

-- statuses

status-8 : status_text_of 8 ≡ codes "input too long"
status-8 = refl
