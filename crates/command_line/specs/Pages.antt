-- The texts that a program prints of itself, and the words that ask for them.
use Rattle.std.specs.Prelude.{ℕ, Bool, ◌&&◌, ◌||◌, List, [], ◌∷◌, map, codes, Option, Some, None, option_copied, String, string_bytes, if◌then◌else◌}
use Rattle.std.specs.Str.{bytes_eq}
use Rattle.std.specs.declared.alloc.Global.{Global}
use Rattle.command_line.specs.declared.pages.Pages.{Pages}

-- `-h` is short for `--help`
abbrev pub is_help : List ℕ → Bool
is_help word = bytes_eq word (codes "--help") || bytes_eq word (codes "-h")

-- help and version are asked for alone, and the lines, if they have a page, after help
abbrev pub page_named : Pages → List (List ℕ) → Option (List ℕ)
page_named pages (word ∷ []) =
    if is_help word then Some pages.help.now else
    if bytes_eq word (codes "--version") then Some pages.version.now else None
page_named pages (word ∷ other ∷ []) = if is_help word && bytes_eq other (codes "lines") then option_copied pages.lines else None
page_named pages words = None

-- the page that these words ask for, if they do
abbrev pub asked_page : Pages → List (String Global) → Option (List ℕ)
asked_page pages words = page_named pages (map string_bytes words)
