-- A message and its shares, lane after lane.
use Rattle.std.specs.Prelude.{List, ℕ, ◌*◌}
use Rattle.layout.specs.Layout.{lane_after_lane}
use Rattle.layout.specs.Width.{symbols_of, bytes_of}
use Rattle.generator.specs.declared.Header.{Header}
use Rattle.blocks.specs.Blocks.{shares_of}
use Rattle.encode.specs.declared.message.Message.{Message}

-- what the record holds by which a message is encoded
abbrev pub record_header : Message → Header
record_header m = m.generator.now.codec.code.header

-- its symbols
abbrev pub message_symbols : Message → List ℕ
message_symbols m = symbols_of m.width.bytes m.bytes.now

-- how many bytes its shares have
abbrev pub share_bytes : Message → ℕ
share_bytes m = m.width.bytes * (record_header m).n * m.lanes

-- and which they are
abbrev pub encoded : Message → List ℕ
encoded m = bytes_of m.width.bytes (shares_of lane_after_lane (record_header m) m.lanes (message_symbols m))
