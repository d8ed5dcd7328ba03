use Rattle.pgpipe_tasks.proofs.command_line.convert_command.Goals as goal

pub returns : goal.returns
returns c =
    let from = c.with_arg.ensures _ _ c.bare_convert_command.ensures c.required_arg-from.ensures in
    let to = c.with_arg-command.ensures _ _ from c.required_arg-to.ensures in
    let columns = c.with_arg-command-2.ensures _ _ to c.columns_arg.ensures in
    let delimiter = c.with_arg-2.ensures _ _ columns c.text_arg-delimiter.ensures in
    let null = c.with_arg-command-3.ensures _ _ delimiter c.text_arg-null.ensures in
    let explain = c.with_arg-command-4.ensures _ _ null c.explain_arg.ensures in
    let progress = c.with_arg-command-5.ensures _ _ explain c.progress_arg.ensures in
    c.with_arg-3.ensures _ _ progress c.file_arg.ensures
