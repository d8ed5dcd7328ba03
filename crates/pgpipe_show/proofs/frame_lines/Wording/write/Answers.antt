use Rattle.std.proofs.Common.{rules}
use Rattle.pgpipe_show.specs.Private.Showing.{AreWords}
use Rattle.pgpipe_show.proofs.Framings.{newline_put, words_put}
use Rattle.pgpipe_show.proofs.frame_lines.Wording.write.Goals as goal

pub returns : goal.returns
returns c =
    let words = AreWords c.args.self.json c.args.self.front (record { kind = c.args.self.kind; bytes = c.args.frame.now }) in
    words_put c.args.self.json c.args.self.front (record { kind = c.args.self.kind; bytes = c.args.frame.now }) c.extend_from_slice.result _ (newline_put words c.extend_from_slice.result _ _ _ (search rules) c.in_ok-put.ensures c.extend_from_slice.ensures.items)
