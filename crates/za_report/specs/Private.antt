pub mod KeptLines
