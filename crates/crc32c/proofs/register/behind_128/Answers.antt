use Rattle.std.proofs.Common.{arith}
use Rattle.crc32c.specs.declared.tables.TheConstants.{TABLE_8, TABLE_9, TABLE_10, TABLE_11, TABLE_12, TABLE_13, TABLE_14, TABLE_15}
use Rattle.crc32c.proofs.Entries.{eight_looked_up, is_table_8, is_table_9, is_table_10, is_table_11, is_table_12, is_table_13, is_table_14, is_table_15}
use Rattle.crc32c.proofs.register.behind_128.Goals as goal

pub returns : goal.returns
returns c =
    eight_looked_up 64 c.args.word TABLE_8 TABLE_9 TABLE_10 TABLE_11 TABLE_12 TABLE_13 TABLE_14 TABLE_15 (omega arith)
    is_table_8 is_table_9 is_table_10 is_table_11 is_table_12 is_table_13 is_table_14 is_table_15
