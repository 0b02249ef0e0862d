pub mod ListRun
