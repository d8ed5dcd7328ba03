-- What a client's first packets are shown as.
use Rattle.std.specs.Prelude.{ℕ, List, ◌++◌, codes}
use Rattle.pg_wire.specs.message.First.{First}
use Rattle.pg_wire.specs.message.First.TheVariants.{Startup, Cancel, Ssl, Gss}
use Rattle.pgpipe_texts.specs.Backend.{key_text}
use Rattle.pgpipe_texts.specs.Text.{listed, quoted, whole}

-- a parameter of a startup: its name and its value
abbrev pub parameter_text : List ℕ × List ℕ → List ℕ
parameter_text p = whole p.0 ++ codes " " ++ quoted p.1

-- a first packet
abbrev pub packet_text : First → List ℕ
packet_text (Startup parameters) = codes "StartupMessage " ++ listed parameter_text parameters
packet_text (Cancel process secret) = codes "CancelRequest" ++ key_text process
packet_text Ssl = codes "SSLRequest"
packet_text Gss = codes "GSSENCRequest"
