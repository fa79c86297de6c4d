-- Finishing: both headers; the state stays as it is.
use Rattle.std.specs.Prelude.{◌≡◌, cond, List, ℕ, ◌+◌, ◌*◌, ◌-◌, nat_abs, Result, Ok, Err}
use Rattle.format.specs.Encoding.{header_bytes}
use Rattle.format.specs.Said.{Said, gives, wrong_size}
use Rattle.header.specs.Box.{box_bits}
use Rattle.boxes.specs.Boxes.{settled}
use Rattle.writer.specs.declared.State.{State}
use Rattle.writer.specs.declared.Headers.{Headers}
use Rattle.writer.specs.declared.NoState.{NoState}
use Rattle.writer.specs.State.{state_fine}

unfoldable pub shp_header : State → List ℕ
shp_header s = header_bytes (nat_abs s.words.0) 1000 (nat_abs s.kind) (box_bits (settled s.bbox))

-- the .shx is 50 words and 4 for each record
unfoldable pub shx_header : State → List ℕ
shx_header s = header_bytes (50 + 4 * (nat_abs s.number - 1)) 1000 (nat_abs s.kind) (box_bits (settled s.bbox))

abbrev pub headers_of : State → Headers
headers_of s = record { shp = shp_header s; shx = shx_header s }

abbrev pub said_finish : Result Headers NoState → Said Headers
said_finish (Ok h) = gives h
said_finish (Err e) = wrong_size 0

-- what is no writer state is 3
pub record Finishes (s : State) (r : Result Headers NoState) : Type 0 where
  pub says : said_finish r ≡ cond (state_fine s) (gives (headers_of s)) (wrong_size 0)
