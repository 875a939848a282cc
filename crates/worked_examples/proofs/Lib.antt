mod PermittedByTests
mod WrittenLogs
